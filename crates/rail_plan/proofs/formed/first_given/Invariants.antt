use Rattle.std.proofs.Common.{◌≡◌, drop}
use Rattle.rail_spec.specs.Plans.{routes_given}
use Rattle.rail_base.specs.Numbering.{first_of_list}
use Rattle.rail_plan.proofs.formed.first_given.Given as goal

-- none was found so far
abbrev pub invariant-loop-command : goal.invariant-loop-command
invariant-loop-command l = first_of_list (routes_given l.train (drop l.command-index l.command-items)) ≡ first_of_list (routes_given l.train l.command-items)
