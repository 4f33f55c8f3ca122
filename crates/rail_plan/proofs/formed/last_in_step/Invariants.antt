use Rattle.std.proofs.Common.{◌≡◌, drop}
use Rattle.std.specs.Option.{option_or}
use Rattle.rail_spec.specs.Plans.{routes_given}
use Rattle.rail_plan.specs.WellFormed.{last_of_list}
use Rattle.rail_plan.proofs.formed.last_in_step.Given as goal

-- the last of the rest, or else the last so far
abbrev pub invariant-loop-command : goal.invariant-loop-command
invariant-loop-command l = option_or (last_of_list (routes_given l.train (drop l.command-index l.command-items))) l.last ≡ option_or (last_of_list (routes_given l.train l.command-items)) l.fn.last
