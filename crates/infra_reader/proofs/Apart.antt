-- Members of a list of which none clashes with an earlier one.
use Rattle.std.proofs.Common.{◌≡◌, ℕ, ◌+◌, ◌-◌, inl, Bool, true, false, not, ◌&&◌, ◌||◌, ◌==◌, List, [], ◌∷◌, ◌++◌, length, take, flat_map, bytes_eq, refl, sym, ap, ap₂, subst, ◌∙◌, append_assoc, length-append, arith, true≢false}
use Rattle.std.specs.List.{enumerate_from, list_any, list_all}
use Rattle.rail_base.specs.Members.{In, all_pairs}
use Rattle.rail_base.proofs.Members.{and_both, list_all_at, list_any_from, false_unless}
use Rattle.rail_base.proofs.Lists.{list_all_from, in_append_left, in_append_right}
use Rattle.design_table.specs.declared.place.Place.{Place}
use Rattle.infra_reader.proofs.Placeless.{no_left, no_right}

take_all : {X : Type 0} (xs ys : List X) → take (length xs) (xs ++ ys) ≡ xs
take_all [] ys = refl
take_all (x ∷ xs) ys = ap (λ zs. x ∷ zs) (take_all xs ys)

module _ {X : Type 0} (clash : X → X → Bool) where
  abbrev apart : X → X → Bool
  apart a b = not (clash a b)

  none_of : (earlier : List X) (x p : X) → list_any (λ q. clash q x) earlier ≡ false → In p earlier → apart p x ≡ true
  none_of earlier x p h m = ap not (false_unless (clash p x) (λ t. true≢false (sym (list_any_from (λ q. clash q x) earlier p m t) ∙ h)))

  module _ (all : List X) (places : ℕ → X → List Place) (later : (n : ℕ) (x : X) → places n x ≡ [] → list_any (λ q. clash q x) (take (n - 1) all) ≡ false) where
    abbrev none_from : ℕ → List X → Type 0
    none_from i xs = flat_map (λ e. places e.0 e.1) (enumerate_from i xs) ≡ []

    from_here : (before xs : List X) → all ≡ before ++ xs → none_from (length before + 1) xs → (list_all (λ p. list_all (apart p) xs) before ≡ true) × (all_pairs apart xs ≡ true)
    from_here before [] e h = (list_all_from (λ p. true) before (λ p m. refl), refl)
    from_here before (x ∷ xs) e h =
        let rest = flat_map (λ e. places e.0 e.1) (enumerate_from (length before + 1 + 1) xs) in
        let back : length before + 1 - 1 ≡ length before = omega arith in
        let prefix : take (length before + 1 - 1) all ≡ before = ap (λ n. take n all) back ∙ ap (take (length before)) e ∙ take_all before (x ∷ xs) in
        let here : list_any (λ q. clash q x) before ≡ false = subst (λ qs. list_any (λ q. clash q x) qs ≡ false) prefix (later (length before + 1) x (no_left (places (length before + 1) x) rest h)) in
        let count : length before + 1 + 1 ≡ length (before ++ x ∷ []) + 1 = omega (arith, length-append before (x ∷ [])) in
        let next = from_here (before ++ x ∷ []) xs (e ∙ sym (append_assoc before (x ∷ []) xs)) (subst (λ n. none_from n xs) count (no_right (places (length before + 1) x) rest h)) in
        let at : (p : X) → In p (before ++ x ∷ []) → list_all (apart p) xs ≡ true = λ p m. list_all_at (λ p. list_all (apart p) xs) (before ++ x ∷ []) p next.0 m in (
          list_all_from (λ p. list_all (apart p) (x ∷ xs)) before (λ p m. and_both (apart p x) (list_all (apart p) xs) (none_of before x p here m) (at p (in_append_left p before (x ∷ []) m))),
          and_both (list_all (apart x) xs) (all_pairs apart xs) (at x (in_append_right x before (x ∷ []) (inl refl))) next.1,
        )

    pub all_apart : none_from 1 all → all_pairs apart all ≡ true
    all_apart h = (from_here [] all refl h).1

-- ---- names

pub bytes_same : (a : List ℕ) → bytes_eq a a ≡ true
bytes_same [] = refl
bytes_same (x ∷ xs) = and_both (x == x) (bytes_eq xs xs) (grind arith) (bytes_same xs)

same_test : (x y : ℕ) → (x == y) ≡ (y == x)
same_test x y = grind arith

pub bytes_turned : (a b : List ℕ) → bytes_eq a b ≡ bytes_eq b a
bytes_turned [] [] = refl
bytes_turned [] (y ∷ ys) = refl
bytes_turned (x ∷ xs) [] = refl
bytes_turned (x ∷ xs) (y ∷ ys) = ap₂ (λ p q. p && q) (same_test x y) (bytes_turned xs ys)

pub any_turned : (name : List ℕ) (names : List (List ℕ)) → list_any (λ q. bytes_eq q name) names ≡ list_any (bytes_eq name) names
any_turned name [] = refl
any_turned name (n ∷ ns) = ap₂ (λ p q. p || q) (bytes_turned n name) (any_turned name ns)

abbrev pub names_apart : List ℕ → List ℕ → Bool
names_apart a b = not (bytes_eq a b)

pub all_push : {X : Type 0} (test : X → Bool) (xs : List X) (x : X) → list_all test xs ≡ true → test x ≡ true → list_all test (xs ++ x ∷ []) ≡ true
all_push test [] x h e = ap (λ b. b && true) e
all_push test (y ∷ ys) x h e = go (test y) h (λ k. all_push test ys x k e)
  where
    go : (b : Bool) → (b && list_all test ys) ≡ true → (list_all test ys ≡ true → list_all test (ys ++ x ∷ []) ≡ true) → (b && list_all test (ys ++ x ∷ [])) ≡ true
    go true k rest = rest k
    go false k rest = absurd (cc)

-- one more that is not there
pub apart_push : (names : List (List ℕ)) (name : List ℕ) → all_pairs names_apart names ≡ true → list_any (bytes_eq name) names ≡ false → all_pairs names_apart (names ++ name ∷ []) ≡ true
apart_push [] name h n = refl
apart_push (x ∷ xs) name h n = go (list_all (names_apart x) xs) refl h (λ k. apart_push xs name k (right (bytes_eq name x) (list_any (bytes_eq name) xs) n))
  where
    first_apart : bytes_eq x name ≡ false
    first_apart = bytes_turned x name ∙ left (bytes_eq name x) (list_any (bytes_eq name) xs) n
      where
        left : (a b : Bool) → (a || b) ≡ false → a ≡ false
        left false b e = refl
        left true b e = absurd (cc)

    right : (a b : Bool) → (a || b) ≡ false → b ≡ false
    right false b e = e
    right true b e = absurd (cc)

    go : (b : Bool) → list_all (names_apart x) xs ≡ b → (b && all_pairs names_apart xs) ≡ true → (all_pairs names_apart xs ≡ true → all_pairs names_apart (xs ++ name ∷ []) ≡ true) → (list_all (names_apart x) (xs ++ name ∷ []) && all_pairs names_apart (xs ++ name ∷ [])) ≡ true
    go true e k rest = and_both (list_all (names_apart x) (xs ++ name ∷ [])) (all_pairs names_apart (xs ++ name ∷ [])) (all_push (names_apart x) xs name e (ap not first_apart)) (rest k)
    go false e k rest = absurd (cc)
