use Rattle.std.proofs.Common.{◌≡◌, flat_map, drop}
use Rattle.bound_clause.specs.Left.{gathered, together}
use Rattle.bound_clause.specs.Said.{said_of_leg}
use Rattle.bound_clause.specs.Spoken.{left}
use Rattle.bound_clause.proofs.numbered.NumberedBound.push_legs.Given as goal

-- what is put and what is left to put make all of it
abbrev pub invariant-loop-leg : goal.invariant-loop-leg
invariant-loop-leg l = together (gathered l.clause) (left l.self (flat_map said_of_leg (drop l.leg-index l.leg-items))) ≡ together (gathered l.fn.clause) (left l.self (flat_map said_of_leg l.leg-items))
