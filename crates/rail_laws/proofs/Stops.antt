-- Where a train has still to stand, by the ticks that it has stood.
use Rattle.std.proofs.Common.{◌≡◌, ℕ, zero, suc, ◌+◌, ◌-◌, ◌≤◌, ◌<◌, inl, inr, min, Bool, true, false, if◌then◌else◌, nat_lt, List, [], ◌∷◌, length, take, Option, Some, None, refl, sym, ap, subst, ◌∙◌, arith, leb-true, leb-false, le-leb}
use Rattle.std.specs.List.{sum}
use Rattle.std.proofs.lemmas.List.Sums.{sum_by-cons}
use Rattle.rail_base.specs.declared.state.PathNode.{PathNode}
use Rattle.rail_base.specs.Members.{In, Pairs}
use Rattle.rail_base.specs.Numbering.{entry}
use Rattle.rail_spec.specs.Places.{next_stop}
use Rattle.rail_laws.specs.Standing.{stood_at, IsFirstUnstood, StandsInOrder}
use Rattle.rail_laws.proofs.Visiting.{NoLater, later_not, later_same, Grown, AllGrown}

sum-cons : (w : ℕ) (ws : List ℕ) → sum (w ∷ ws) ≡ w + sum ws
sum-cons w ws = sum_by-cons (λ (x : ℕ). x) w ws

pub stop_in : (ws : List ℕ) (ps : List (Option PathNode)) (n : ℕ) (s : PathNode) → next_stop ws ps n ≡ Some s → In (Some s) ps
stop_in [] ps n s h = cc
stop_in (w ∷ ws) [] n s h = cc
stop_in (w ∷ ws) (p ∷ ps) n s h = go (nat_lt n w) h (stop_in ws ps (n - w) s)
  where
    go : (b : Bool) → (if b then p else next_stop ws ps (n - w)) ≡ Some s → (next_stop ws ps (n - w) ≡ Some s → In (Some s) ps) → In (Some s) (p ∷ ps)
    go true k later = inl k
    go false k later = inr (later k)

-- it has not stood all its ticks then
pub stop_below : (ws : List ℕ) (ps : List (Option PathNode)) (n : ℕ) (s : PathNode) → next_stop ws ps n ≡ Some s → n < sum ws
stop_below [] ps n s h = cc
stop_below (w ∷ ws) [] n s h = cc
stop_below (w ∷ ws) (p ∷ ps) n s h = go (nat_lt n w) refl h (stop_below ws ps (n - w) s)
  where
    go : (b : Bool) → nat_lt n w ≡ b → (if b then p else next_stop ws ps (n - w)) ≡ Some s → (next_stop ws ps (n - w) ≡ Some s → n - w < sum ws) → n < sum (w ∷ ws)
    go true e k later = let l = leb-true (suc n) w e in let c = sum-cons w ws in omega arith
    go false e k later = let l = leb-false (suc n) w e in let m = later k in let c = sum-cons w ws in omega arith

-- the more it has stood, the farther the place is
pub stop_later : (ws : List ℕ) (ps : List (Option PathNode)) (m n : ℕ) → Pairs NoLater ps → m ≤ n → NoLater (next_stop ws ps m) (next_stop ws ps n)
stop_later [] ps m n rise l = tt
stop_later (w ∷ ws) [] m n rise l = tt
stop_later (w ∷ ws) (p ∷ ps) m n rise l = go (nat_lt m w) refl (nat_lt n w) refl (stop_later ws ps (m - w) (n - w) rise.1)
  where
    past : (o : Option PathNode) → next_stop ws ps (n - w) ≡ o → NoLater p o
    past None e = later_not p
    past (Some s) e = rise.0 (Some s) (stop_in ws ps (n - w) s e)

    go : (b : Bool) → nat_lt m w ≡ b → (c : Bool) → nat_lt n w ≡ c → (m - w ≤ n - w → NoLater (next_stop ws ps (m - w)) (next_stop ws ps (n - w)))
        → NoLater (if b then p else next_stop ws ps (m - w)) (if c then p else next_stop ws ps (n - w))
    go true e true f later = later_same p
    go true e false f later = past (next_stop ws ps (n - w)) refl
    go false e true f later = let a = leb-false (suc m) w e in let b = leb-true (suc n) w f in absurd (omega arith)
    go false e false f later = later (omega arith)

pub stop_grown : (more : List PathNode) (ws : List ℕ) (xs ys : List (Option PathNode)) (n : ℕ) → AllGrown more xs ys → Grown more (next_stop ws xs n) (next_stop ws ys n)
stop_grown more [] xs ys n h = tt
stop_grown more (w ∷ ws) [] [] n h = tt
stop_grown more (w ∷ ws) [] (y ∷ ys) n h = absurd h
stop_grown more (w ∷ ws) (x ∷ xs) [] n h = absurd h
stop_grown more (w ∷ ws) (x ∷ xs) (y ∷ ys) n h = go (nat_lt n w) (stop_grown more ws xs ys (n - w) h.1)
  where
    go : (b : Bool) → Grown more (next_stop ws xs (n - w)) (next_stop ws ys (n - w)) → Grown more (if b then x else next_stop ws xs (n - w)) (if b then y else next_stop ws ys (n - w))
    go true k = h.0
    go false k = k

-- the place is at or before that of a visit by which it has not stood all its ticks
pub stop_before : (ws : List ℕ) (ps : List (Option PathNode)) (n j : ℕ) (s : PathNode) → Pairs NoLater ps → entry None ps j ≡ Some s → n < sum (take j ws)
    → (a : PathNode) × (next_stop ws ps n ≡ Some a) × (a.event.place ≤ s.event.place)
stop_before ws ps n zero s rise e l = cc
stop_before [] ps n (suc j) s rise e l = absurd (omega arith)
stop_before (w ∷ ws) [] n (suc j) s rise e l = cc
stop_before (w ∷ ws) (p ∷ ps) n (suc zero) s rise e l = (s, ap (λ b. if b then p else next_stop ws ps (n - w)) (le-leb (suc n) w (let c = sum-cons w [] in omega arith)) ∙ e, omega arith)
stop_before (w ∷ ws) (p ∷ ps) n (suc (suc j)) s rise e l = go (nat_lt n w) refl (stop_before ws ps (n - w) (suc j) s rise.1 e)
  where
    in_rest : (ps : List (Option PathNode)) (i : ℕ) → entry None ps (suc i) ≡ Some s → In (Some s) ps
    in_rest [] i k = cc
    in_rest (q ∷ qs) zero k = inl k
    in_rest (q ∷ qs) (suc i) k = inr (in_rest qs i k)

    first : (o : Option PathNode) → p ≡ o → NoLater o (Some s) → (a : PathNode) × (p ≡ Some a) × (a.event.place ≤ s.event.place)
    first None k up = absurd up
    first (Some a) k up = (a, k, up)

    go : (b : Bool) → nat_lt n w ≡ b → (n - w < sum (take (suc j) ws) → (a : PathNode) × (next_stop ws ps (n - w) ≡ Some a) × (a.event.place ≤ s.event.place))
        → (a : PathNode) × ((if b then p else next_stop ws ps (n - w)) ≡ Some a) × (a.event.place ≤ s.event.place)
    go true k later = first p refl (rise.0 (Some s) (in_rest ps j e))
    go false k later = later (let a = leb-false (suc n) w k in let c = sum-cons w (take (suc j) ws) in omega arith)

-- the place is that of the visit for which it stands
pub stop_is : (ws : List ℕ) (ps : List (Option PathNode)) (n j : ℕ) → sum (take (j - 1) ws) ≤ n → n < sum (take j ws) → next_stop ws ps n ≡ entry None ps j
stop_is [] ps n zero low high = absurd (omega arith)
stop_is (w ∷ ws) ps n zero low high = absurd (omega arith)
stop_is [] ps n (suc j) low high = absurd (omega arith)
stop_is (w ∷ ws) [] n (suc j) low high = refl
stop_is (w ∷ ws) (p ∷ ps) n (suc zero) low high = ap (λ b. if b then p else next_stop ws ps (n - w)) (le-leb (suc n) w (let c = sum-cons w [] in omega arith))
stop_is (w ∷ ws) (p ∷ ps) n (suc (suc j)) low high = go (nat_lt n w) refl (stop_is ws ps (n - w) (suc j))
  where
    below : w + sum (take j ws) ≤ n
    below =
        let e : suc (suc j) - 1 ≡ suc j = omega arith in
        let c = sum-cons w (take j ws) in
        let l : sum (take (suc j) (w ∷ ws)) ≤ n = subst (λ m. sum (take m (w ∷ ws)) ≤ n) e low in
        omega arith

    low_next : sum (take (suc j - 1) ws) ≤ n - w
    low_next =
        let e : suc j - 1 ≡ j = omega arith in
        let l = below in
        let k : sum (take j ws) ≤ n - w = omega arith in
        subst (λ m. sum (take m ws) ≤ n - w) (sym e) k

    go : (b : Bool) → nat_lt n w ≡ b → (sum (take (suc j - 1) ws) ≤ n - w → n - w < sum (take (suc j) ws) → next_stop ws ps (n - w) ≡ entry None ps (suc j))
        → (if b then p else next_stop ws ps (n - w)) ≡ entry None (p ∷ ps) (suc (suc j))
    go true e later = let l = leb-true (suc n) w e in let k = below in absurd (omega arith)
    go false e later = later low_next (let c = sum-cons w (take (suc j) ws) in let k = below in omega arith)

pub grown_entry : (more : List PathNode) (xs ys : List (Option PathNode)) (j : ℕ) → AllGrown more xs ys → Grown more (entry None xs j) (entry None ys j)
grown_entry more xs ys zero h = tt
grown_entry more [] [] (suc j) h = tt
grown_entry more [] (y ∷ ys) (suc j) h = absurd h
grown_entry more (x ∷ xs) [] (suc j) h = absurd h
grown_entry more (x ∷ xs) (y ∷ ys) (suc zero) h = h.0
grown_entry more (x ∷ xs) (y ∷ ys) (suc (suc j)) h = grown_entry more xs ys (suc j) h.1

-- ---- the one number and the ticks stood at each visit

-- at the first visit
stood_first : (w : ℕ) (ws : List ℕ) (n : ℕ) → stood_at (w ∷ ws) n 1 ≡ min w n
stood_first w ws n =
    let first : 1 - 1 ≡ 0 = omega arith in
    let all : n - 0 ≡ n = omega arith in
    let none : n - sum (take (1 - 1) (w ∷ ws)) ≡ n = ap (λ m. n - sum (take m (w ∷ ws))) first ∙ all in
    ap (min w) none

-- and at the others
stood_next : (w : ℕ) (ws : List ℕ) (n i : ℕ) → stood_at (w ∷ ws) n (suc (suc i)) ≡ stood_at ws (n - w) (suc i)
stood_next w ws n i =
    let a : suc (suc i) - 1 ≡ suc i = omega arith in
    let b : suc i - 1 ≡ i = omega arith in
    let c = sum-cons w (take i ws) in
    let left : n - sum (take (suc (suc i) - 1) (w ∷ ws)) ≡ n - (w + sum (take i ws)) = ap (λ m. n - sum (take m (w ∷ ws))) a ∙ ap (λ m. n - m) c in
    let right : (n - w) - sum (take (suc i - 1) ws) ≡ (n - w) - sum (take i ws) = ap (λ m. (n - w) - sum (take m ws)) b in
    ap (min (entry 0 ws (suc i))) (left ∙ (let same : n - (w + sum (take i ws)) ≡ (n - w) - sum (take i ws) = omega arith in same) ∙ sym right)

first_unstood : (ws : List ℕ) (ps : List (Option PathNode)) (n j : ℕ) → IsFirstUnstood ws n j → next_stop ws ps n ≡ entry None ps j
first_unstood ws ps n zero h = let l = h.low in absurd (omega arith)
first_unstood [] ps n (suc j) h = let l = h.high in absurd (omega arith)
first_unstood (w ∷ ws) [] n (suc j) h = refl
first_unstood (w ∷ ws) (p ∷ ps) n (suc zero) h =
    ap (λ b. if b then p else next_stop ws ps (n - w)) (le-leb (suc n) w (let l : min w n < w = subst (λ m. m < w) (stood_first w ws n) h.unstood in omega arith))
first_unstood (w ∷ ws) (p ∷ ps) n (suc (suc j)) h = go (nat_lt n w) refl (first_unstood ws ps (n - w) (suc j) rest)
  where
    all_first : min w n ≡ w
    all_first = sym (stood_first w ws n) ∙ h.before 1 (omega arith) (omega arith)

    rest : IsFirstUnstood ws (n - w) (suc j)
    rest = record {
      low = omega arith;
      high = let l = h.high in omega arith;
      unstood = subst (λ m. m < entry 0 ws (suc j)) (stood_next w ws n j) h.unstood;
      before = earlier;
    }
      where
        earlier : (i : ℕ) → 1 ≤ i → i < suc j → stood_at ws (n - w) i ≡ entry 0 ws i
        earlier zero l k = absurd (omega arith)
        earlier (suc i) l k = sym (stood_next w ws n i) ∙ h.before (suc (suc i)) (omega arith) (omega arith)

    go : (b : Bool) → nat_lt n w ≡ b → next_stop ws ps (n - w) ≡ entry None (p ∷ ps) (suc (suc j)) → (if b then p else next_stop ws ps (n - w)) ≡ entry None (p ∷ ps) (suc (suc j))
    go true e later = let l = leb-true (suc n) w e in let a = all_first in absurd (omega arith)
    go false e later = later

none_unstood : (ws : List ℕ) (ps : List (Option PathNode)) (n : ℕ) → ((j : ℕ) → 1 ≤ j → j ≤ length ws → stood_at ws n j ≡ entry 0 ws j) → next_stop ws ps n ≡ None
none_unstood [] ps n h = refl
none_unstood (w ∷ ws) [] n h = refl
none_unstood (w ∷ ws) (p ∷ ps) n h = go (nat_lt n w) refl (none_unstood ws ps (n - w) rest)
  where
    rest : (j : ℕ) → 1 ≤ j → j ≤ length ws → stood_at ws (n - w) j ≡ entry 0 ws j
    rest zero l k = absurd (omega arith)
    rest (suc i) l k = sym (stood_next w ws n i) ∙ h (suc (suc i)) (omega arith) (omega arith)

    all_first : min w n ≡ w
    all_first = sym (stood_first w ws n) ∙ h 1 (omega arith) (omega arith)

    go : (b : Bool) → nat_lt n w ≡ b → next_stop ws ps (n - w) ≡ None → (if b then p else next_stop ws ps (n - w)) ≡ None
    go true e later = let l = leb-true (suc n) w e in let a = all_first in absurd (omega arith)
    go false e later = later

pub stands_in_order : (ws : List ℕ) (ps : List (Option PathNode)) (n : ℕ) → StandsInOrder ws ps n
stands_in_order ws ps n = (first_unstood ws ps n, none_unstood ws ps n)
