use Rattle.std.proofs.Common.{◌≡◌, drop}
use Rattle.sat_clause.specs.Hints.{unit_of, open_lits}
use Rattle.rup_check.proofs.Units.{found_in}
use Rattle.rup_check.proofs.check.unit.Given as goal

abbrev pub invariant-loop-literal : goal.invariant-loop-literal
invariant-loop-literal l = unit_of l.assigned l.clause ≡ found_in l.assigned l.found (open_lits l.assigned (drop l.literal-index l.clause))
