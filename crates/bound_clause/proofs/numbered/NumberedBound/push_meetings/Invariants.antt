use Rattle.std.proofs.Common.{◌≡◌, ◌-◌, drop}
use Rattle.bound_clause.specs.Left.{gathered, together}
use Rattle.bound_clause.specs.Said.{said_of_meetings}
use Rattle.bound_clause.specs.Spoken.{left}
use Rattle.bound_clause.proofs.numbered.NumberedBound.push_meetings.Given as goal

-- what is put and what is left to put make all of it
abbrev pub invariant-loop-index : goal.invariant-loop-index
invariant-loop-index l = together (gathered l.clause) (left l.self (said_of_meetings (drop (l.index - 1) l.legs))) ≡ together (gathered l.fn.clause) (left l.self (said_of_meetings l.legs))
