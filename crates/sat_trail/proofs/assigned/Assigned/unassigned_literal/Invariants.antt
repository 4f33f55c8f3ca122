use Rattle.std.proofs.Common.{◌≡◌, ◌≤◌, ◌<◌, true, ◌⊎◌}
use Rattle.sat_clause.specs.declared.lit.Lit.{Lit}
use Rattle.sat_clause.specs.Clauses.{opposite}
use Rattle.sat_clause.specs.Hints.{is_assigned}
use Rattle.sat_trail.specs.Trails.{lits}
use Rattle.sat_trail.proofs.assigned.Assigned.unassigned_literal.Given as goal

abbrev pub invariant-loop-var : goal.invariant-loop-var
invariant-loop-var v = (l : Lit) → 1 ≤ l.var → l.var < v.var → (is_assigned (lits v.self.steps) l ≡ true) ⊎ (is_assigned (lits v.self.steps) (opposite l) ≡ true)
