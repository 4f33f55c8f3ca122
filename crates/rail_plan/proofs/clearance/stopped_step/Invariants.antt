use Rattle.std.proofs.Common.{◌≡◌, ◌+◌, ◌-◌, flat_map, length}
use Rattle.rail_base.specs.Numbering.{count_from, first_of_list}
use Rattle.rail_plan.specs.Ahead.{stopped, stopped_in}
use Rattle.rail_plan.proofs.clearance.stopped_step.Given as goal

-- the first is to be found among the trains that are left
abbrev pub invariant-loop-index : goal.invariant-loop-index
invariant-loop-index l = first_of_list (flat_map (λ n. stopped_in l.interlocking.design.station l.interlocking.routes l.before l.step (record { 0 = n })) (count_from (l.index + 1) (length l.interlocking.design.station.trains - l.index))) ≡ first_of_list (stopped l.interlocking.design.station l.interlocking.routes l.before l.step)
