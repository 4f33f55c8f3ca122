use Rattle.std.proofs.Common.{◌≡◌, ◌+◌, ◌-◌, ◌++◌, map, flat_map, length}
use Rattle.rail_base.specs.Numbering.{count_from}
use Rattle.rail_base.specs.declared.station.TrainNo.{TrainNo}
use Rattle.rail_spec.specs.Plans.{routes_given}
use Rattle.cone_clause.specs.Spoken.{commands, numbered, said_of_commands, used}
use Rattle.cone_clause.proofs.numbered.NumberedCone.push_used.Given as goal

-- what is put and what is left to put make all of it
abbrev pub invariant-loop-number : goal.invariant-loop-number
invariant-loop-number l =
    l.clause.items ++ numbered l.self (flat_map (λ (t : TrainNo). flat_map (used l.self) (map (λ r. record { train = t; route = r }) (routes_given t (commands l.self)))) (map (λ n. record { 0 = n }) (count_from l.number (length l.self.contention.interlocking.now.design.station.trains + 1 - l.number))))
    ≡ l.fn.clause.items ++ said_of_commands l.self
