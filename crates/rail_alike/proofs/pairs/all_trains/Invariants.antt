use Rattle.std.proofs.Common.{◌≡◌, ◌+◌, ◌-◌, ◌++◌, map, length}
use Rattle.rail_base.specs.Numbering.{count_from}
use Rattle.rail_base.specs.Stations.{trains}
use Rattle.rail_alike.proofs.pairs.all_trains.Given as goal

-- those so far and those that are left are all
abbrev pub invariant-loop-number : goal.invariant-loop-number
invariant-loop-number l =
    l.found.items ++ map (λ n. record { 0 = n }) (count_from l.number (length l.design.station.trains + 1 - l.number)) ≡ trains l.design.station
