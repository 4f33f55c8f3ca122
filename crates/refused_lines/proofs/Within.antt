-- Clauses whose literals are each of one of so many variables.
use Rattle.std.proofs.Common.{◌≡◌, ℕ, ◌≤◌, Bool, true, false, ◌&&◌, nat_le, List, [], ◌∷◌, inl, inr, refl, sym, subst, arith}
use Rattle.std.specs.List.{list_all}
use Rattle.std.proofs.lemmas.Bool.Decides.{nat_tests}
use Rattle.sat_clause.specs.declared.lit.Lit.{Lit}
use Rattle.sat_clause.specs.Hints.{same_lit, is_assigned}
use Rattle.sat_trail.specs.Trails.{IsIn, AllIn}
use Rattle.sat_trail.proofs.Members.{either, same-equal}
use Rattle.refused_lines.specs.Variables.{is_in}
use Rattle.sat_clause.proofs.Sound.{both}

in_range : (vars var : ℕ) → (nat_le 1 var && nat_le var vars) ≡ true → (1 ≤ var) × (var ≤ vars)
in_range vars var h = grind (arith, nat_tests)

-- each literal that such a clause has is of one of them
pub all_in : (vars : ℕ) (clause : List Lit) → list_all (is_in vars) clause ≡ true → AllIn vars clause
all_in vars [] a l h = absurd (cc)
all_in vars (k ∷ ks) a l h =
    let p = both (is_in vars k) (list_all (is_in vars) ks) a in
    elim (either (same_lit l k) (is_assigned ks l) h) [
      | inl s ↦ subst (IsIn vars) (sym (same-equal l k s)) (in_range vars k.var p.0)
      | inr r ↦ all_in vars ks p.1 l r
    ]
