-- A clause is true where any of its literals is.
use Rattle.std.proofs.Common.{◌≡◌, ℕ, Bool, ◌||◌, List, [], ◌∷◌, refl, ap}
use Rattle.std.specs.List.{list_any}
use Rattle.sat_clause.specs.declared.lit.Lit.{Lit}
use Rattle.sat_clause.specs.Clauses.{lit_holds, clause_holds}

pub any_holds : (values : ℕ → Bool) (clause : List Lit) → list_any (lit_holds values) clause ≡ clause_holds values clause
any_holds values [] = refl
any_holds values (l ∷ ls) = ap (λ b. lit_holds values l || b) (any_holds values ls)
