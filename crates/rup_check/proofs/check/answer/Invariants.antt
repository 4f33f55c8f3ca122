use Rattle.std.proofs.Common.{◌≡◌, drop}
use Rattle.sat_clause.specs.Hints.{follow_of, follow_from}
use Rattle.rup_check.proofs.check.answer.Given as goal

abbrev pub invariant-loop-i : goal.invariant-loop-i
invariant-loop-i l = follow_of l.arena l.fn.clause l.hints ≡ follow_from l.arena l.assigned (drop l.i l.hints)
