use Rattle.std.proofs.Common.{◌≡◌, map, drop}
use Rattle.bound_clause.specs.Left.{gathered, together}
use Rattle.bound_clause.specs.Said.{said_of_pair}
use Rattle.bound_clause.specs.Spoken.{left}
use Rattle.bound_clause.proofs.numbered.NumberedBound.push_after.Given as goal

-- what is put and what is left to put make all of it
abbrev pub invariant-loop-number : goal.invariant-loop-number
invariant-loop-number l = together (gathered l.clause) (left l.self (map (λ q. said_of_pair l.named l.last (record { train = l.next.train; route = q })) (drop l.number-index l.number-items))) ≡ together (gathered l.fn.clause) (left l.self (map (λ q. said_of_pair l.named l.last (record { train = l.next.train; route = q })) l.number-items))
