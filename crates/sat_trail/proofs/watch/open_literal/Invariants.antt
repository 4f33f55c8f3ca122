use Rattle.std.proofs.Common.{◌≡◌, true, false, take}
use Rattle.sat_clause.specs.declared.lit.Lit.{Lit}
use Rattle.sat_clause.specs.Clauses.{opposite}
use Rattle.sat_clause.specs.Hints.{same_lit, is_assigned}
use Rattle.sat_trail.specs.Trails.{lits}
use Rattle.sat_trail.proofs.watch.open_literal.Given as goal

abbrev pub invariant-loop-i : goal.invariant-loop-i
invariant-loop-i v = (l : Lit) → is_assigned (take v.i v.clause) l ≡ true → same_lit l v.other ≡ false → is_assigned (lits v.trail.steps) (opposite l) ≡ true
