use Rattle.std.proofs.Common.{◌≡◌, ◌++◌, filter, map, take}
use Rattle.order_bounds.specs.Asked.{makes_it}
use Rattle.order_bounds.proofs.pairs.add_pairs.Given as goal

-- those so far with which the visit can be made are there
abbrev pub invariant-loop-other : goal.invariant-loop-other
invariant-loop-other l = l.pairs.items ≡ l.initial.pairs.items ++ map (λ c. (l.command, c)) (filter (makes_it l.contention.interlocking.now.routes l.train l.visit.number l.visit.list.now) (take l.other-index l.other-items))
