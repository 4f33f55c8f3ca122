use Rattle.std.proofs.Common.{◌≡◌, ◌+◌, ◌-◌, not, filter, map, length}
use Rattle.rail_base.specs.Numbering.{count_from, first_of_list}
use Rattle.rail_base.specs.Stations.{trains}
use Rattle.rail_base.specs.declared.station.TrainNo.{TrainNo}
use Rattle.rail_plan.specs.WellFormed.{is_placed}
use Rattle.rail_plan.proofs.formed.misplaced_train.Given as goal

-- the first is to be found among the trains that are left
abbrev pub invariant-loop-index : goal.invariant-loop-index
invariant-loop-index l =
    let test : TrainNo → _ = λ t. not (is_placed l.interlocking.design.station l.interlocking.routes l.before l.step t) in
    first_of_list (filter test (map (λ n. record { 0 = n }) (count_from (l.index + 1) (length l.interlocking.design.station.trains - l.index)))) ≡ first_of_list (filter test (trains l.interlocking.design.station))
