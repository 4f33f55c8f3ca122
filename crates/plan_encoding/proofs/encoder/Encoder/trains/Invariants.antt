use Rattle.std.proofs.Common.{◌≡◌, ◌+◌, ◌-◌, ◌++◌, map, length}
use Rattle.rail_base.specs.Numbering.{count_from}
use Rattle.rail_base.specs.Stations.{trains}
use Rattle.plan_encoding.proofs.encoder.Encoder.trains.Given as goal

-- what is put and what is left to put make all of it
abbrev pub invariant-loop-number : goal.invariant-loop-number
invariant-loop-number l = l.trains.items ++ map (λ r. record { 0 = r }) (count_from l.number (length l.self.interlocking.now.design.station.trains + 1 - l.number)) ≡ trains l.self.interlocking.now.design.station
