use Rattle.std.proofs.Common.{◌≡◌, ◌++◌, drop}
use Rattle.rail_spec.specs.Plans.{path}
use Rattle.rail_plan.proofs.paths.path_of.Given as goal

-- the path so far, and what the rest of the steps give
abbrev pub invariant-loop-step : goal.invariant-loop-step
invariant-loop-step l = l.routes.items ++ path (drop l.step-index l.step-items) l.train ≡ path l.step-items l.train
