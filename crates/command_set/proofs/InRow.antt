-- The place of a route in a row.
use Rattle.std.proofs.Common.{◌≡◌, ℕ, zero, suc, ◌≤◌, ◌<◌, ◌⊎◌, inl, inr, Bool, true, false, ◌||◌, if◌then◌else◌, nat_lt, List, [], ◌∷◌, get_or, length, Some, None, refl, sym, ap, ap₂, subst, ◌∙◌, arith, eqb-true, eq-eqb, leb-true}
use Rattle.std.specs.List.{list_any}
use Rattle.std.specs.List.Sorted.{IsPartitionedBy, IsPartitionPoint}
use Rattle.rail_base.specs.declared.route.RouteNo.{RouteNo}
use Rattle.rail_base.specs.Members.{In, Pairs}
use Rattle.rail_base.specs.Numbering.{before_first}
use Rattle.rail_base.proofs.Members.{below_or_not, false_unless}
use Rattle.rail_spec.specs.Plans.{is_route}
use Rattle.command_set.specs.Commands.{AreRising, first_place}

-- the members of two places
pub pairs_at : {X : Type 0} (R : X → X → Type 0) (xs : List X) (i j : ℕ) (other : X) → Pairs R xs → i < j → j < length xs → R (get_or xs i other) (get_or xs j other)
pairs_at R [] i j other h l m = absurd (omega arith)
pairs_at R (x ∷ xs) i zero other h l m = absurd (omega arith)
pairs_at {X} R (x ∷ xs) zero (suc j) other h l m = h.0 (get_or xs j other) (at xs j (omega arith))
  where
    at : (ys : List X) (n : ℕ) → n < length ys → In (get_or ys n other) ys
    at [] n b = absurd (omega arith)
    at (y ∷ ys) zero b = inl refl
    at (y ∷ ys) (suc n) b = inr (at ys n (omega arith))
pairs_at R (x ∷ xs) (suc i) (suc j) other h l m = pairs_at R xs i j other h.1 (omega arith) (omega arith)

first_at : {X : Type 0} (test : X → Bool) (xs : List X) (n : ℕ) (other : X) → ((k : ℕ) → k < n → test (get_or xs k other) ≡ false) → n < length xs → test (get_or xs n other) ≡ true
    → first_place test xs ≡ Some n
first_at {X} test xs n other none l h = let k = go xs n none l h in ap₂ (λ b m. if b then Some m else None) k.0 k.1
  where
    go : (ys : List X) (m : ℕ) → ((k : ℕ) → k < m → test (get_or ys k other) ≡ false) → m < length ys → test (get_or ys m other) ≡ true → (list_any test ys ≡ true) × (length (before_first test ys) ≡ m)
    go [] m none l h = absurd (omega arith)
    go (y ∷ ys) zero none l h = (ap (λ b. b || list_any test ys) h, ap (λ b. length (if b then [] else y ∷ before_first test ys)) h)
    go (y ∷ ys) (suc m) none l h =
        let rest = go ys m (λ k b. none (suc k) (omega arith)) (omega arith) h in
        let is = none zero (omega arith) in
        (ap (λ b. b || list_any test ys) is ∙ rest.0, ap (λ b. length (if b then [] else y ∷ before_first test ys)) is ∙ ap suc rest.1)

none_at : {X : Type 0} (test : X → Bool) (xs : List X) (other : X) → ((k : ℕ) → k < length xs → test (get_or xs k other) ≡ false) → first_place test xs ≡ None
none_at {X} test xs other none = ap (λ b. if b then Some (length (before_first test xs)) else None) (go xs none)
  where
    go : (ys : List X) → ((k : ℕ) → k < length ys → test (get_or ys k other) ≡ false) → list_any test ys ≡ false
    go [] h = refl
    go (y ∷ ys) h = ap₂ (λ a b. a || b) (h zero (omega arith)) (go ys (λ k l. h (suc k) (omega arith)))

module _ (row : List RouteNo) (rising : AreRising row) (r : RouteNo) where
  pub parted_row : IsPartitionedBy (λ (q : RouteNo). nat_lt q.0 r.0) row
  parted_row = λ i j other l m h. go i j other m h (below_or_not i j) l
    where
      go : (i j : ℕ) (other : RouteNo) → j < length row → nat_lt (get_or row j other).0 r.0 ≡ true → (i < j) ⊎ (j ≤ i) → i ≤ j → nat_lt (get_or row i other).0 r.0 ≡ true
      go i j other m h (inl l) k =
          let one = pairs_at (λ (a b : RouteNo). a.0 < b.0) row i j other rising l m in
          let two = leb-true _ _ h in
          lower (get_or row i other).0 (get_or row j other).0 r.0 one two
        where
          lower : (a b c : ℕ) → a < b → b < c → nat_lt a c ≡ true
          lower a b c x y = grind arith
      go i j other m h (inr l) k = let e : i ≡ j = omega arith in subst (λ n. nat_lt (get_or row n other).0 r.0 ≡ true) (sym e) h

  module _ (n : ℕ) (bound : n ≤ length row) (point : IsPartitionPoint (λ (q : RouteNo). nat_lt q.0 r.0 ≡ true) (λ (q : RouteNo). nat_lt q.0 r.0 ≡ false) row n) where
    below : (k : ℕ) → k < n → is_route r (get_or row k r) ≡ false
    below k l =
        let less = leb-true _ _ (point.0 k r (omega arith) l) in
        false_unless (is_route r (get_or row k r)) (λ h. let e = eqb-true r.0 (get_or row k r).0 h in absurd (omega arith))

    pub row_found : (other : RouteNo) → n < length row → (get_or row n other).0 ≡ r.0 → first_place (is_route r) row ≡ Some n
    row_found other l h = first_at (is_route r) row n r below l (eq-eqb r.0 (get_or row n r).0 (sym h ∙ ap (λ (q : RouteNo). q.0) (alike row n l)))
      where
        alike : (ys : List RouteNo) (m : ℕ) → m < length ys → get_or ys m other ≡ get_or ys m r
        alike [] m l = absurd (omega arith)
        alike (y ∷ ys) zero l = refl
        alike (y ∷ ys) (suc m) l = alike ys m (omega arith)

    pub row_absent : (other : RouteNo) → (n < length row → (get_or row n other).0 ≡ r.0 → ⊥) → first_place (is_route r) row ≡ None
    row_absent other apart = none_at (is_route r) row other (λ k l. at k l (below_or_not k n) (below_or_not n k))
      where
        at : (k : ℕ) → k < length row → (k < n) ⊎ (n ≤ k) → (n < k) ⊎ (k ≤ n) → is_route r (get_or row k other) ≡ false
        at k l (inl b) f =
            let less = leb-true _ _ (point.0 k other (omega arith) b) in
            false_unless _ (λ h. let e = eqb-true r.0 (get_or row k other).0 h in absurd (omega arith))
        at k l (inr b) (inl f) =
            let rises = pairs_at (λ (a b : RouteNo). a.0 < b.0) row n k other rising f l in
            let high = not_below (get_or row n other).0 r.0 (point.1 n other (omega arith) (omega arith)) in
            false_unless _ (λ h. let e = eqb-true r.0 (get_or row k other).0 h in absurd (omega arith))
          where
            not_below : (a b : ℕ) → nat_lt a b ≡ false → b ≤ a
            not_below a b h = grind arith
        at k l (inr b) (inr f) =
            let e : k ≡ n = omega arith in
            false_unless _ (λ h. absurd (apart (omega arith) (subst (λ m. (get_or row m other).0 ≡ r.0) e (sym (eqb-true r.0 (get_or row k other).0 h)))))
