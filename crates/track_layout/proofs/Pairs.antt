-- Lists of which each two members pass a test.
use Rattle.std.proofs.Common.{◌≡◌, Bool, true, false, ◌&&◌, List, [], ◌∷◌, ◌++◌, refl}
use Rattle.std.specs.List.{list_all}
use Rattle.std.proofs.lemmas.List.Folds.{list_all-append}
use Rattle.rail_base.specs.Members.{all_pairs}

both : (p q : Bool) → (p && q) ≡ true → (p ≡ true) × (q ≡ true)
both true q h = (refl, h)
both false q h = absurd (cc)

joined : (p q r : Bool) → p ≡ true → q ≡ true → r ≡ true → ((p && q) && r) ≡ true
joined true true r p q h = h
joined true false r p q h = absurd (cc)
joined false q r p _ h = absurd (cc)

-- of two such lists, where each of the one passes with each of the other
pub pairs_both : {X : Type 0} (test : X → X → Bool) (xs ys : List X) → list_all (λ x. list_all (test x) ys) xs ≡ true → all_pairs test ys ≡ true → all_pairs test xs ≡ true → all_pairs test (xs ++ ys) ≡ true
pairs_both test [] ys across behind before = behind
pairs_both test (x ∷ xs) ys across behind before =
    let a = both (list_all (test x) ys) (list_all (λ x. list_all (test x) ys) xs) across in
    let b = both (list_all (test x) xs) (all_pairs test xs) before in
    rw (list_all-append (test x) xs ys) (joined (list_all (test x) xs) (list_all (test x) ys) (all_pairs test (xs ++ ys)) b.0 a.0 (pairs_both test xs ys a.1 behind b.1))
