use Rattle.std.proofs.Common.{◌≡◌, flat_map, drop}
use Rattle.bound_clause.specs.Left.{gathered, together}
use Rattle.bound_clause.specs.Said.{said_after}
use Rattle.bound_clause.specs.Spoken.{left}
use Rattle.bound_clause.proofs.numbered.NumberedBound.push_between.Given as goal

-- what is put and what is left to put make all of it
abbrev pub invariant-loop-number : goal.invariant-loop-number
invariant-loop-number l = together (gathered l.clause) (left l.self (flat_map (λ r. said_after l.named (record { train = l.leg.train; route = r }) l.next) (drop l.number-index l.number-items))) ≡ together (gathered l.fn.clause) (left l.self (flat_map (λ r. said_after l.named (record { train = l.leg.train; route = r }) l.next) l.number-items))
