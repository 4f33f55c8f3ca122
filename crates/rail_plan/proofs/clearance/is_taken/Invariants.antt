use Rattle.std.proofs.Common.{◌≡◌, drop}
use Rattle.std.specs.List.{list_any}
use Rattle.rail_plan.specs.Holds.{takes}
use Rattle.rail_plan.proofs.clearance.is_taken.Given as goal

-- none so far does
abbrev pub invariant-loop-command : goal.invariant-loop-command
invariant-loop-command l = list_any (takes l.interlocking.routes l.train l.section) (drop l.command-index l.command-items) ≡ list_any (takes l.interlocking.routes l.train l.section) l.command-items
