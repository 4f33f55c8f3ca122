-- A variable with a held literal has its place in the table of marks.
use Rattle.std.proofs.Common.{◌≡◌, ℕ, ◌<◌, ◌≤◌, Bool, true, false, cond, not, List, length, get_or, refl, ◌∙◌, arith}
use Rattle.std.proofs.lemmas.Bool.{eq-eqb}
use Rattle.std.proofs.lemmas.List.{get_or_past}
use Rattle.std.proofs.lemmas.List.Folds.{list_any_at}
use Rattle.sat_clause.specs.declared.lit.Lit.{Lit}
use Rattle.sat_clause.specs.Hints.{same_lit, is_assigned}
use Rattle.rup_check.specs.declared.marks.Mark.{Mark}
use Rattle.rup_check.specs.Marks.{marked, no_mark, Agrees}

same_bool-self : (b : Bool) → cond b b (not b) ≡ true
same_bool-self true = refl
same_bool-self false = refl

same_lit-self : (l : Lit) → same_lit l l ≡ true
same_lit-self l = rw (eq-eqb l.var l.var refl, same_bool-self l.negated) refl

no_mark-says : (b : Bool) → cond b false false ≡ false
no_mark-says true = refl
no_mark-says false = refl

marked-past : (table : List Mark) (l : Lit) → length table ≤ l.var → marked table l ≡ false
marked-past table l h = rw (get_or_past table l.var no_mark h) (no_mark-says l.negated)

-- each held literal has its place
pub assigned-within : (table : List Mark) (assigned : List Lit) (i : ℕ) (d : Lit) → Agrees table assigned → i < length assigned → (get_or assigned i d).var < length table
assigned-within table assigned i d agrees h =
    let l : Lit = get_or assigned i d in
    let is : is_assigned assigned l ≡ true = list_any_at (same_lit l) assigned i d h (same_lit-self l) in
    let yes : marked table l ≡ true = agrees l ∙ is in
    grind (arith, marked-past, yes)
