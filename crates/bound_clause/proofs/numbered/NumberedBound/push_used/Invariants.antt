use Rattle.std.proofs.Common.{◌≡◌, map, drop}
use Rattle.bound_clause.specs.Left.{gathered, together}
use Rattle.bound_clause.specs.Said.{used_by}
use Rattle.bound_clause.specs.Spoken.{left}
use Rattle.bound_clause.proofs.numbered.NumberedBound.push_used.Given as goal

-- what is put and what is left to put make all of it
abbrev pub invariant-loop-number : goal.invariant-loop-number
invariant-loop-number l = together (gathered l.clause) (left l.self (map (used_by l.train) (drop l.number-index l.routes))) ≡ together (gathered l.fn.clause) (left l.self (map (used_by l.train) l.routes))
