-- Prefixes of lists in order.
use Rattle.std.proofs.Common.{◌≡◌, ℕ, zero, suc, ◌≤◌, inl, inr, Bool, true, List, [], ◌∷◌, map, take, refl, ap, arith}
use Rattle.std.specs.List.{list_all}
use Rattle.rail_base.specs.Members.{all_pairs, all_neighbors}
use Rattle.rail_base.proofs.Members.{In, and_left, and_right, and_both}

pub pairs_take : {X : Type 0} (test : X → X → Bool) (i : ℕ) (xs : List X) → all_pairs test xs ≡ true → all_pairs test (take i xs) ≡ true
pairs_take test zero xs h = refl
pairs_take test (suc i) [] h = refl
pairs_take test (suc i) (x ∷ xs) h = and_both _ _ (all_take (test x) i xs (and_left (list_all (test x) xs) _ h)) (pairs_take test i xs (and_right (list_all (test x) xs) _ h))
  where
    all_take : {X : Type 0} (test : X → Bool) (i : ℕ) (xs : List X) → list_all test xs ≡ true → list_all test (take i xs) ≡ true
    all_take test zero xs h = refl
    all_take test (suc i) [] h = refl
    all_take test (suc i) (x ∷ xs) h = and_both _ _ (and_left (test x) _ h) (all_take test i xs (and_right (test x) _ h))

pub neighbors_take : {X : Type 0} (test : X → X → Bool) (i : ℕ) (xs : List X) → all_neighbors test xs ≡ true → all_neighbors test (take i xs) ≡ true
neighbors_take test zero xs h = refl
neighbors_take test (suc i) [] h = refl
neighbors_take test (suc zero) (x ∷ xs) h = refl
neighbors_take test (suc (suc i)) (x ∷ []) h = refl
neighbors_take test (suc (suc i)) (x ∷ y ∷ xs) h = and_both _ _ (and_left (test x y) _ h) (neighbors_take test (suc i) (y ∷ xs) (and_right (test x y) _ h))

pub map-take : {X Y : Type 0} (f : X → Y) (i : ℕ) (xs : List X) → map f (take i xs) ≡ take i (map f xs)
map-take f zero xs = refl
map-take f (suc i) [] = refl
map-take f (suc i) (x ∷ xs) = ap (λ ys. f x ∷ ys) (map-take f i xs)

pub in_longer_take : {X : Type 0} (i j : ℕ) (xs : List X) (x : X) → i ≤ j → In x (take i xs) → In x (take j xs)
in_longer_take zero j xs x l m = absurd m
in_longer_take (suc i) zero xs x l m = absurd (omega arith)
in_longer_take (suc i) (suc j) [] x l m = absurd m
in_longer_take (suc i) (suc j) (y ∷ ys) x l (inl e) = inl e
in_longer_take (suc i) (suc j) (y ∷ ys) x l (inr m) = inr (in_longer_take i j ys x (omega arith) m)
