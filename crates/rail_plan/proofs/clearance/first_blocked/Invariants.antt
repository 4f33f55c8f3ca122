use Rattle.std.proofs.Common.{◌≡◌, ◌+◌, ◌-◌, flat_map, length, take}
use Rattle.rail_base.specs.Numbering.{count_from, first_of_list}
use Rattle.rail_base.specs.Stations.{trains}
use Rattle.rail_plan.specs.Executable.{blocked, blocked_in}
use Rattle.rail_plan.specs.Holds.{AreHolds}
use Rattle.rail_plan.proofs.clearance.first_blocked.Given as goal

-- the first is to be found in the steps that are left, and the holds are those after the steps so far
abbrev pub invariant-loop-index : goal.invariant-loop-index
invariant-loop-index l = record {
  left : first_of_list (flat_map (λ i. flat_map (blocked_in l.interlocking.design.station l.interlocking.routes l.steps i) (trains l.interlocking.design.station)) (count_from (l.index + 1) (length l.steps - l.index))) ≡ first_of_list (blocked l.interlocking.design.station l.interlocking.routes l.steps);
  holds : AreHolds l.interlocking.design.station l.interlocking.routes (take l.index l.steps) l.holds;
}
