use Rattle.std.proofs.Common.{◌≡◌, ◌++◌, drop}
use Rattle.rail_spec.specs.Plans.{routes_given}
use Rattle.rail_plan.proofs.paths.push_given.Given as goal

-- what was pushed, and what the rest of the step gives
abbrev pub invariant-loop-command : goal.invariant-loop-command
invariant-loop-command l = l.routes.items ++ routes_given l.train (drop l.command-index l.command-items) ≡ l.fn.routes.items ++ routes_given l.train l.command-items
