-- Clauses that are all true.
use Rattle.std.specs.Prelude.{ℕ, Bool}
use Rattle.std.specs.List.{list_all}
use Rattle.sat_clause.specs.Clauses.{Store, clause_holds}

-- all clauses are true under the values of the variables
abbrev pub clauses_hold : (ℕ → Bool) → Store → Bool
clauses_hold values store = list_all (λ entry. clause_holds values entry.0) store
