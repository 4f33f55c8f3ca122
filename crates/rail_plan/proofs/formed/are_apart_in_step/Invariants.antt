use Rattle.std.proofs.Common.{◌≡◌, drop}
use Rattle.std.specs.List.{list_all}
use Rattle.rail_plan.specs.WellFormed.{is_apart}
use Rattle.rail_plan.proofs.formed.are_apart_in_step.Given as goal

-- those so far are
abbrev pub invariant-loop-command : goal.invariant-loop-command
invariant-loop-command l = list_all (is_apart l.routes l.train l.route) (drop l.command-index l.command-items) ≡ list_all (is_apart l.routes l.train l.route) l.command-items
