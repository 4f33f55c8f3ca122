use Rattle.std.proofs.Common.{◌≡◌, ◌++◌, map, flat_map, drop}
use Rattle.cone_clause.specs.Spoken.{numbered, said_of_train, used}
use Rattle.cone_clause.proofs.numbered.NumberedCone.push_used_of.Given as goal

-- what is put and what is left to put make all of it
abbrev pub invariant-loop-route : goal.invariant-loop-route
invariant-loop-route l =
    l.clause.items ++ numbered l.self (flat_map (used l.self) (map (λ r. record { train = l.train; route = r }) (drop l.route-index l.route-items)))
    ≡ l.fn.clause.items ++ said_of_train l.self l.train
