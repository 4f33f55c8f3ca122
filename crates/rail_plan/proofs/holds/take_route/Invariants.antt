use Rattle.std.proofs.Common.{◌≡◌, drop, length}
use Rattle.rail_base.specs.declared.station.SectionNo.{SectionNo}
use Rattle.rail_plan.specs.Holds.{hold_at, taken_by_parts}
use Rattle.rail_plan.proofs.holds.take_route.Given as goal

-- the other parts are still to be taken
abbrev pub invariant-loop-part : goal.invariant-loop-part
invariant-loop-part l = record {
  many : length l.holds ≡ length l.fn.holds;
  taken : (z : SectionNo) → taken_by_parts l.interlocking.design.station l.interlocking.routes z l.command (drop l.part-index l.part-items) (hold_at l.holds z)
      ≡ taken_by_parts l.interlocking.design.station l.interlocking.routes z l.command l.part-items (hold_at l.fn.holds z);
}
