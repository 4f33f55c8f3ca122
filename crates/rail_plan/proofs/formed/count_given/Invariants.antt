use Rattle.std.proofs.Common.{◌≡◌, ◌≤◌, ◌+◌, drop, length}
use Rattle.rail_spec.specs.Plans.{routes_given}
use Rattle.rail_plan.proofs.formed.count_given.Given as goal

-- those counted, and those in the rest
abbrev pub invariant-loop-command : goal.invariant-loop-command
invariant-loop-command l = (l.count ≤ l.command-index) × (l.count + length (routes_given l.train (drop l.command-index l.command-items)) ≡ length (routes_given l.train l.command-items))
