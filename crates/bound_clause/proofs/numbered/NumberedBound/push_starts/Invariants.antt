use Rattle.std.proofs.Common.{◌≡◌, ◌+◌, ◌-◌, map, flat_map, length}
use Rattle.rail_base.specs.Numbering.{count_from}
use Rattle.bound_clause.specs.Left.{gathered, together}
use Rattle.bound_clause.specs.Said.{said_of_start, said_of_starts}
use Rattle.bound_clause.specs.Spoken.{left, routes_in, station_of}
use Rattle.bound_clause.proofs.numbered.NumberedBound.push_starts.Given as goal

-- what is put and what is left to put make all of it
abbrev pub invariant-loop-number : goal.invariant-loop-number
invariant-loop-number l = together (gathered l.clause) (left l.self (flat_map (said_of_start (station_of l.self) (routes_in l.self)) (map (λ r. record { train = l.train; route = r }) (map (λ r. record { 0 = r }) (count_from l.number (length (routes_in l.self) + 1 - l.number))))))
    ≡ together (gathered l.fn.clause) (left l.self (said_of_starts (station_of l.self) (routes_in l.self) l.train))
