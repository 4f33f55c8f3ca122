use Rattle.std.proofs.Common.{◌≡◌, drop}
use Rattle.sat_clause.specs.Hints.{at_last, open_lits}
use Rattle.rup_check.proofs.check.last.Given as goal

abbrev pub invariant-loop-literal : goal.invariant-loop-literal
invariant-loop-literal l = at_last (open_lits l.assigned l.clause) ≡ at_last (open_lits l.assigned (drop l.literal-index l.clause))
