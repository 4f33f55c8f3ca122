use Rattle.cone_spec.proofs.Orderly.{orderly}
use Rattle.cone_spec.proofs.laws.cones_are_orderly.Goals as goal

pub returns : goal.returns
returns c = orderly
