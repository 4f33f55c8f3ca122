-- One of each requirement, taken in order.
use Rattle.std.proofs.Common.{◌≡◌, Bool, true, false, not, ◌&&◌, ◌||◌, List, [], ◌∷◌, ◌++◌, refl, sym, ap, subst, ◌∙◌}
use Rattle.std.proofs.Common.{bytes_eq, filter, ⊎_elim, arith}
use Rattle.std.proofs.lemmas.Slice.Eq.{bytes_eq-Decides}
use Rattle.std.proofs.lemmas.Bool.{cases_Bool}
use Rattle.std.proofs.lemmas.List.{append_assoc}
use Rattle.std.specs.Borrow.{Bor}
use Rattle.std.specs.List.{list_any}
use Rattle.evidence_words.specs.Failings.{FailingSeen, seen}
use Rattle.evidence_words.specs.declared.failing.Failing.{Failing}
use Rattle.proof_words.specs.Said.{lent_seen}
use Rattle.proof_words.specs.Summaries.{is_same, one_of_each}

-- none of these is of the same requirement
abbrev pub is_new : List FailingSeen → FailingSeen → Bool
is_new ks g = not (list_any (λ k. is_same k g) ks)

pub filter_twice : {X : Type 0} (p q r : X → Bool) → ((x : X) → r x ≡ (q x && p x)) → (xs : List X) → filter p (filter q xs) ≡ filter r xs
filter_twice p q r law [] = refl
filter_twice p q r law (x ∷ xs) = ⊎_elim
    (λ y. ⊎_elim
    (λ z. grind (arith, law x, y, z, filter_twice p q r law xs))
    (λ n. grind (arith, law x, y, n, filter_twice p q r law xs))
    (cases_Bool (p x)))
    (λ n. grind (arith, law x, n, filter_twice p q r law xs))
    (cases_Bool (q x))

pub filter_none : (fs : List FailingSeen) → filter (is_new []) fs ≡ fs
filter_none [] = refl
filter_none (f ∷ fs) = ap (λ gs. f ∷ gs) (filter_none fs)

any_same : (ks : List FailingSeen) (f g : FailingSeen) → is_same f g ≡ true → list_any (λ k. is_same k f) ks ≡ true → list_any (λ k. is_same k g) ks ≡ true
any_same ks f g same h = subst (λ n. list_any (λ k. bytes_eq k.name n) ks ≡ true) ((bytes_eq-Decides f.name g.name).0 same) h

any_last : (ks : List FailingSeen) (f g : FailingSeen) → list_any (λ k. is_same k g) (ks ++ f ∷ []) ≡ (list_any (λ k. is_same k g) ks || is_same f g)
any_last [] f g = grind arith
any_last (k ∷ ks) f g = grind (arith, any_last ks f g)

-- one whose requirement is among them
pub known : (ks : List FailingSeen) (f : FailingSeen) (fs : List FailingSeen) → list_any (λ k. is_same k f) ks ≡ true
    → filter (is_new ks) (one_of_each (f ∷ fs)) ≡ filter (is_new ks) (one_of_each fs)
known ks f fs is =
    let left : filter (is_new ks) (one_of_each (f ∷ fs)) ≡ filter (is_new ks) (filter (λ g. not (is_same f g)) (one_of_each fs)) = grind (arith, is) in
    left ∙ filter_twice (is_new ks) (λ g. not (is_same f g)) (is_new ks)
    (λ g. ⊎_elim (λ y. grind (arith, y, any_same ks f g y is)) (λ n. grind (arith, n)) (cases_Bool (is_same f g)))
    (one_of_each fs)

-- one whose requirement is not among them
pub added : (ks : List FailingSeen) (f : FailingSeen) (fs : List FailingSeen) → list_any (λ k. is_same k f) ks ≡ false
    → filter (is_new ks) (one_of_each (f ∷ fs)) ≡ f ∷ filter (is_new (ks ++ f ∷ [])) (one_of_each fs)
added ks f fs isnt =
    let left : filter (is_new ks) (one_of_each (f ∷ fs)) ≡ f ∷ filter (is_new ks) (filter (λ g. not (is_same f g)) (one_of_each fs)) = grind (arith, isnt) in
    left ∙ ap (λ gs. f ∷ gs) (filter_twice (is_new ks) (λ g. not (is_same f g)) (is_new (ks ++ f ∷ []))
    (λ g. grind (arith, any_last ks f g))
    (one_of_each fs))

-- ---- a turn of the loop

-- with a new one
pub turn_added : (ks : List FailingSeen) (f : FailingSeen) (rest all : List FailingSeen) → list_any (λ k. is_same k f) ks ≡ false
    → ks ++ filter (is_new ks) (one_of_each (f ∷ rest)) ≡ all → (ks ++ f ∷ []) ++ filter (is_new (ks ++ f ∷ [])) (one_of_each rest) ≡ all
turn_added ks f rest all isnt h = append_assoc ks (f ∷ []) _ ∙ (ap (λ (gs : List FailingSeen). ks ++ gs) (sym (added ks f rest isnt)) ∙ h)

-- with one that is known
pub turn_known : (ks : List FailingSeen) (f : FailingSeen) (rest all : List FailingSeen) → list_any (λ k. is_same k f) ks ≡ true
    → ks ++ filter (is_new ks) (one_of_each (f ∷ rest)) ≡ all → ks ++ filter (is_new ks) (one_of_each rest) ≡ all
turn_known ks f rest all is h = ap (λ (gs : List FailingSeen). ks ++ gs) (sym (known ks f rest is)) ∙ h

pub lent_added : (ks : List (Bor Failing)) (f : Bor Failing) → lent_seen (ks ++ f ∷ []) ≡ lent_seen ks ++ seen f.now ∷ []
lent_added [] f = refl
lent_added (k ∷ ks) f = ap (λ (gs : List FailingSeen). seen k.now ∷ gs) (lent_added ks f)
