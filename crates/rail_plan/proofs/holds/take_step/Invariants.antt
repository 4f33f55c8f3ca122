use Rattle.std.proofs.Common.{◌≡◌, drop, length}
use Rattle.rail_base.specs.declared.station.SectionNo.{SectionNo}
use Rattle.rail_plan.specs.Holds.{hold_at, taken_by_step}
use Rattle.rail_plan.proofs.holds.take_step.Given as goal

-- the other commands are still to take theirs
abbrev pub invariant-loop-command : goal.invariant-loop-command
invariant-loop-command l = record {
  many : length l.holds ≡ length l.fn.holds;
  taken : (z : SectionNo) → taken_by_step l.interlocking.design.station l.interlocking.routes z (drop l.command-index l.command-items) (hold_at l.holds z)
      ≡ taken_by_step l.interlocking.design.station l.interlocking.routes z l.command-items (hold_at l.fn.holds z);
}
