use Rattle.std.proofs.Common.{◌≡◌, ◌+◌, ◌-◌, flat_map, map, length}
use Rattle.rail_base.specs.Numbering.{count_from, first_of_list}
use Rattle.rail_plan.specs.declared.place.PlanPlace.TheVariants as place
use Rattle.rail_plan.specs.WellFormed.{misplaced_in, placed_badly}
use Rattle.rail_plan.proofs.formed.first_misplaced.Given as goal

-- the first is to be found in the steps that are left
abbrev pub invariant-loop-index : goal.invariant-loop-index
invariant-loop-index l = first_of_list (flat_map (λ i. map (place.Train i) (misplaced_in l.interlocking.design.station l.interlocking.routes l.steps i)) (count_from (l.index + 1) (length l.steps - l.index))) ≡ first_of_list (placed_badly l.interlocking.design.station l.interlocking.routes l.steps)
