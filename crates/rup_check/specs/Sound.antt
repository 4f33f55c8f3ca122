-- What it is that a clause follows.
use Rattle.std.specs.Prelude.{ℕ, Bool, IsTrue, List}
use Rattle.sat_clause.specs.declared.lit.Lit.{Lit}
use Rattle.sat_clause.specs.Clauses.{Store, clause_holds}
use Rattle.sat_clause.specs.Hints.{hints_hold}

-- the clause is true of all values of which the clauses of the hints are
abbrev pub Follows : Store → List ℕ → List Lit → Type 0
Follows store hints clause = (values : ℕ → Bool) → IsTrue (hints_hold values store hints)
    → IsTrue (clause_holds values clause)
