-- Tests of all members, and of neighbors, one step further.
use Rattle.std.proofs.Common.{◌≡◌, ℕ, zero, suc, ◌+◌, ◌-◌, ◌<◌, ◌≤◌, Bool, true, false, ◌&&◌, ◌||◌, not, List, [], ◌∷◌, map, take, drop, get_or, length, refl, sym, ap, ◌∙◌, arith, true≢false}
use Rattle.std.proofs.lemmas.Grind.{common_steps}
use Rattle.std.specs.List.{list_all, list_any}
use Rattle.rail_base.specs.Members.{all_neighbors, all_pairs}
use Rattle.std.proofs.lemmas.List.{drop_more}

-- what a test is worth, and then another where it holds
pub and_then : {r a s b : Bool} → r ≡ a → r ≡ true → s ≡ b → s ≡ (a && b)
and_then {r} {a} {s} {b} e t h = h ∙ ap (λ x. x && b) (sym t ∙ e)

pub and_else : (b : Bool) {r a : Bool} → r ≡ a → r ≡ false → r ≡ (a && b)
and_else b {r} {a} e f = go a (sym e ∙ f)
  where
    go : (x : Bool) → x ≡ false → r ≡ (x && b)
    go false g = f
    go true g = absurd (true≢false g)

pub drop_end : {X : Type 0} (xs : List X) (i : ℕ) → length xs ≤ i → drop i xs ≡ []
drop_end [] zero h = refl
drop_end [] (suc i) h = refl
drop_end (x ∷ xs) zero h = absurd (omega arith)
drop_end (x ∷ xs) (suc i) h = drop_end xs i (omega arith)

-- the slice from a place on is all that is left from there
pub rest_is : {X : Type 0} (xs : List X) (i : ℕ) → take (length xs - i) (drop i xs) ≡ drop i xs
rest_is xs i = grind (arith, common_steps)

module _ {X : Type 0} (test : X → Bool) (xs : List X) (i : ℕ) (x : X) (inside : i < length xs) where
  here : list_all test (drop i xs) ≡ (test (get_or xs i x) && list_all test (drop (i + 1) xs))
  here = ap (list_all test) (drop_more xs i x inside)

  pub read_stop : test (get_or xs i x) ≡ false → list_all test (drop i xs) ≡ list_all test xs → false ≡ list_all test xs
  read_stop e h = sym (ap (λ b. b && list_all test (drop (i + 1) xs)) e) ∙ (sym here ∙ h)

  pub read_next : test (get_or xs i x) ≡ true → list_all test (drop i xs) ≡ list_all test xs → list_all test (drop (i + 1) xs) ≡ list_all test xs
  read_next e h = sym (ap (λ b. b && list_all test (drop (i + 1) xs)) e) ∙ (sym here ∙ h)

  pub all_stop : x ≡ get_or xs i x → test x ≡ false → list_all test (drop i xs) ≡ list_all test xs → false ≡ list_all test xs
  all_stop is e h = read_stop (sym (ap test is) ∙ e) h

  pub all_next : x ≡ get_or xs i x → test x ≡ true → list_all test (drop i xs) ≡ list_all test xs → list_all test (drop (i + 1) xs) ≡ list_all test xs
  all_next is e h = read_next (sym (ap test is) ∙ e) h

pub all_end : {X : Type 0} (test : X → Bool) (xs : List X) (i : ℕ) → length xs ≤ i → list_all test (drop i xs) ≡ list_all test xs → true ≡ list_all test xs
all_end test xs i e h = sym (ap (list_all test) (drop_end xs i e)) ∙ h

-- ---- neighbors

module _ {X : Type 0} (test : X → X → Bool) where
  -- the member of a place and the next, and those from the next on
  neighbors_step : (xs : List X) (i : ℕ) (a b : X) → i + 1 < length xs → all_neighbors test (drop i xs) ≡ (test (get_or xs i a) (get_or xs (i + 1) b) && all_neighbors test (drop (i + 1) xs))
  neighbors_step xs i a b h =
      let first : drop i xs ≡ get_or xs i a ∷ drop (i + 1) xs = drop_more xs i a (omega arith) in
      let second : drop (i + 1) xs ≡ get_or xs (i + 1) b ∷ drop (i + 1 + 1) xs = drop_more xs (i + 1) b h in
      ap (all_neighbors test) (first ∙ ap (λ ys. get_or xs i a ∷ ys) second)
      ∙ ap (λ ys. test (get_or xs i a) (get_or xs (i + 1) b) && all_neighbors test ys) (sym second)

  -- so where the code has come to the second of the two
  neighbors_at : (xs : List X) (i : ℕ) (a b : X) → 1 ≤ i → i < length xs → all_neighbors test (drop (i - 1) xs) ≡ (test (get_or xs (i - 1) a) (get_or xs i b) && all_neighbors test (drop (i + 1 - 1) xs))
  neighbors_at xs i a b l h =
      let e : i - 1 + 1 ≡ i = omega arith in
      let g : i + 1 - 1 ≡ i = omega arith in
      neighbors_step xs (i - 1) a b (omega arith)
      ∙ (ap (λ j. test (get_or xs (i - 1) a) (get_or xs j b) && all_neighbors test (drop j xs)) e ∙ ap (λ j. test (get_or xs (i - 1) a) (get_or xs i b) && all_neighbors test (drop j xs)) (sym g))

  pub neighbors_stop : (xs : List X) (i : ℕ) (a b : X) → 1 ≤ i → i < length xs → test (get_or xs (i - 1) a) (get_or xs i b) ≡ false → all_neighbors test (drop (i - 1) xs) ≡ all_neighbors test xs → false ≡ all_neighbors test xs
  neighbors_stop xs i a b l h e k = sym (ap (λ t. t && all_neighbors test (drop (i + 1 - 1) xs)) e) ∙ (sym (neighbors_at xs i a b l h) ∙ k)

  pub neighbors_next : (xs : List X) (i : ℕ) (a b : X) → 1 ≤ i → i < length xs → test (get_or xs (i - 1) a) (get_or xs i b) ≡ true → all_neighbors test (drop (i - 1) xs) ≡ all_neighbors test xs → all_neighbors test (drop (i + 1 - 1) xs) ≡ all_neighbors test xs
  neighbors_next xs i a b l h e k = sym (ap (λ t. t && all_neighbors test (drop (i + 1 - 1) xs)) e) ∙ (sym (neighbors_at xs i a b l h) ∙ k)

  neighbors_few : (xs : List X) (i : ℕ) → length xs ≤ i + 1 → all_neighbors test (drop i xs) ≡ true
  neighbors_few [] zero h = refl
  neighbors_few [] (suc i) h = refl
  neighbors_few (x ∷ []) zero h = refl
  neighbors_few (x ∷ y ∷ xs) zero h = absurd (omega arith)
  neighbors_few (x ∷ xs) (suc i) h = neighbors_few xs i (omega arith)

  pub neighbors_end : (xs : List X) (i : ℕ) → length xs ≤ i → all_neighbors test (drop (i - 1) xs) ≡ all_neighbors test xs → true ≡ all_neighbors test xs
  neighbors_end xs i h k = sym (neighbors_few xs (i - 1) (omega arith)) ∙ k

module _ {X Y : Type 0} (test : Y → Y → Bool) (f : X → Y) where
  mapped : (xs : List X) → all_neighbors test (map f xs) ≡ all_neighbors (λ a b. test (f a) (f b)) xs
  mapped [] = refl
  mapped (x ∷ []) = refl
  mapped (x ∷ y ∷ xs) = ap (λ b. test (f x) (f y) && b) (mapped (y ∷ xs))

  pub mapped_end : (xs : List X) (i : ℕ) → length xs ≤ i → all_neighbors test (map f (drop (i - 1) xs)) ≡ all_neighbors test (map f xs) → true ≡ all_neighbors test (map f xs)
  mapped_end xs i h k = neighbors_end (λ a b. test (f a) (f b)) xs i h (sym (mapped (drop (i - 1) xs)) ∙ (k ∙ mapped xs)) ∙ sym (mapped xs)

-- ---- each two

-- the member of a place with those behind it, and those from the next on
pairs_at : {X Y : Type 0} (apart : Y → Y → Bool) (f : X → Y) (xs : List X) (i : ℕ) (a : X) → i < length xs
    → all_pairs (λ r q. not (apart r q)) (map f (drop i xs)) ≡ (not (list_any (apart (f (get_or xs i a))) (map f (drop (i + 1) xs))) && all_pairs (λ r q. not (apart r q)) (map f (drop (i + 1) xs)))
pairs_at apart f xs i a h =
    ap (λ ys. all_pairs (λ r q. not (apart r q)) (map f ys)) (drop_more xs i a h)
    ∙ ap (λ t. t && all_pairs (λ r q. not (apart r q)) (map f (drop (i + 1) xs))) (none (apart (f (get_or xs i a))) (map f (drop (i + 1) xs)))
  where
    or_not : (a b : Bool) → (not a && not b) ≡ not (a || b)
    or_not true b = refl
    or_not false b = refl

    none : {Y : Type 0} (test : Y → Bool) (ys : List Y) → list_all (λ y. not (test y)) ys ≡ not (list_any test ys)
    none test [] = refl
    none test (y ∷ ys) = ap (λ b. not (test y) && b) (none test ys) ∙ or_not (test y) (list_any test ys)

module _ {X Y : Type 0} (same : Y → Y → Bool) (f : X → Y) (xs : List X) (i : ℕ) (a : X) (inside : i < length xs) where
  pub pairs_stop : list_any (same (f (get_or xs i a))) (map f (drop (i + 1) xs)) ≡ true → all_pairs (λ r q. not (same r q)) (map f (drop i xs)) ≡ all_pairs (λ r q. not (same r q)) (map f xs) → false ≡ all_pairs (λ r q. not (same r q)) (map f xs)
  pairs_stop e h = sym (ap (λ t. not t && all_pairs (λ r q. not (same r q)) (map f (drop (i + 1) xs))) e) ∙ (sym (pairs_at same f xs i a inside) ∙ h)

  pub pairs_next : list_any (same (f (get_or xs i a))) (map f (drop (i + 1) xs)) ≡ false → all_pairs (λ r q. not (same r q)) (map f (drop i xs)) ≡ all_pairs (λ r q. not (same r q)) (map f xs) → all_pairs (λ r q. not (same r q)) (map f (drop (i + 1) xs)) ≡ all_pairs (λ r q. not (same r q)) (map f xs)
  pairs_next e h = sym (ap (λ t. not t && all_pairs (λ r q. not (same r q)) (map f (drop (i + 1) xs))) e) ∙ (sym (pairs_at same f xs i a inside) ∙ h)
