use Rattle.cone_spec.specs.Cones.{of_cone}
use Rattle.cone_run.proofs.layout.ConeLayout.history.Given as goal

abbrev pub ghost-history_of : goal.ghost-history_of
ghost-history_of a = of_cone a.cone.now
