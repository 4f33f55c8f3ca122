use Rattle.std.proofs.Common.{◌≡◌, ◌++◌, drop}
use Rattle.rail_spec.specs.Plans.{path}
use Rattle.plan_faults.proofs.commands.path_of.Given as goal

abbrev pub invariant-loop-step : goal.invariant-loop-step
invariant-loop-step l = l.routes.items ++ path (drop l.step-index l.steps) l.train ≡ path l.steps l.train
