use Rattle.std.proofs.Common.{◌≡◌, ◌++◌, ◌+◌, ◌-◌, ◌*◌, ◌≤◌, map}
use Rattle.rail_base.specs.Numbering.{count_from}
use Rattle.workload.specs.Draws.{drawn, runs_east, time_of}
use Rattle.workload.specs.Traffic.{train, within, trains, withins}
use Rattle.workload.proofs.traffic.make_traffic.Given as goal

-- what is added and what is left to add make all of it
abbrev pub invariant-loop-number : goal.invariant-loop-number
invariant-loop-number l = (1 ≤ l.number) × (l.draws.state ≡ drawn l.fn.draws.state (2 * (l.number - 1)))
    × (l.traffic.trains.items ++ map (λ j. train j (runs_east l.fn.draws.state 0 j)) (count_from l.number (l.size + 1 - l.number)) ≡ trains l.size (runs_east l.fn.draws.state 0))
    × (l.traffic.withins.items ++ map (λ j. within j (time_of l.fn.draws.state 0 j)) (count_from l.number (l.size + 1 - l.number)) ≡ withins l.size (time_of l.fn.draws.state 0))
