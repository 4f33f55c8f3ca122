use Rattle.std.proofs.Common.{◌≡◌, flat_map, drop}
use Rattle.bound_clause.specs.Left.{gathered, together}
use Rattle.bound_clause.specs.Said.{said_of_place}
use Rattle.bound_clause.specs.Spoken.{left}
use Rattle.bound_clause.proofs.numbered.NumberedBound.push_leg.Given as goal

-- what is put and what is left to put make all of it
abbrev pub invariant-loop-place : goal.invariant-loop-place
invariant-loop-place l = together (gathered l.clause) (left l.self (flat_map (said_of_place l.leg.train) (drop l.place-index l.place-items))) ≡ together (gathered l.fn.clause) (left l.self (flat_map (said_of_place l.leg.train) l.place-items))
