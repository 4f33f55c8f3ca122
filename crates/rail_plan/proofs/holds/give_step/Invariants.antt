use Rattle.std.proofs.Common.{◌≡◌, length}
use Rattle.rail_plan.proofs.Taking.{AreGiven}
use Rattle.rail_plan.proofs.holds.give_step.Given as goal

-- those so far were given theirs
abbrev pub invariant-loop-index : goal.invariant-loop-index
invariant-loop-index l = record {
  many : length l.holds ≡ length l.fn.holds;
  given : AreGiven l.routes l.step l.fn.holds l.index l.holds;
}
