-- Which values make the clauses of a base true.
use Rattle.std.specs.Prelude.{ℕ, ◌≡◌, ◌++◌, Bool, true, List, map}
use Rattle.std.specs.List.{list_all}
use Rattle.sat_clause.specs.declared.lit.Lit.{Lit}
use Rattle.sat_clause.specs.Clauses.{Store, clause_holds}
use Rattle.sat_core.specs.Models.{MakesTrue}

-- values that make all live clauses of a store true make those clauses true with which it begins
abbrev pub PrefixIsTrue : Type 0
PrefixIsTrue = (values : ℕ → Bool) (clauses : List (List Lit)) (rest : Store)
    → MakesTrue values (map (λ c. (c, true)) clauses ++ rest) → list_all (clause_holds values) clauses ≡ true
