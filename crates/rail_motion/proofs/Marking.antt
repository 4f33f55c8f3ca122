-- Spans are marked from the last one on, each by those after it.
use Rattle.std.proofs.Common.{◌≡◌, ℕ, zero, suc, ◌+◌, ◌-◌, ◌≤◌, ◌<◌, ◌≤ℤ◌, ◌<ℤ◌, ◌⊎◌, inl, inr, List, [], ◌∷◌, set, drop, length, nat_abs, slice_index_or, refl, sym, ◌∙◌, ap, subst, arith, eq-or-lt_of_le}
use Rattle.std.proofs.lemmas.Int.{ints}
use Rattle.std.proofs.lemmas.Bool.{cases_lt}
use Rattle.std.proofs.lemmas.List.{length-map}
use Rattle.rail_motion.specs.declared.Span.{Span}
use Rattle.rail_motion.specs.Track.{stretch_of, stretches_of, IsNextSlower, IsRising, IsSlowestOfBlock, LeastAhead, NoneSlower}

-- the member at an index is one for all
pub any_other : (spans : List Span) (i : ℕ) (d e : Span) → i < length spans → slice_index_or spans i d ≡ slice_index_or spans i e
any_other [] i d e within = absurd (omega arith)
any_other (s ∷ rest) zero d e within = refl
any_other (s ∷ rest) (suc i) d e within = any_other rest i d e (omega arith)

set_here : (spans : List Span) (i : ℕ) (s d : Span) → i < length spans → slice_index_or (set spans i s) i d ≡ s
set_here [] i s d within = absurd (omega arith)
set_here (x ∷ rest) zero s d within = refl
set_here (x ∷ rest) (suc i) s d within = set_here rest i s d (omega arith)

set_before : (spans : List Span) (i j : ℕ) (s d : Span) → i < j → slice_index_or (set spans i s) j d ≡ slice_index_or spans j d
set_before [] i j s d before = refl
set_before (x ∷ rest) i zero s d before = absurd (omega arith)
set_before (x ∷ rest) zero (suc j) s d before = refl
set_before (x ∷ rest) (suc i) (suc j) s d before = set_before rest i j s d (omega arith)

pub length_of-set : (spans : List Span) (i : ℕ) (s : Span) → length (set spans i s) ≡ length spans
length_of-set [] i s = refl
length_of-set (x ∷ rest) zero s = refl
length_of-set (x ∷ rest) (suc i) s = ap suc (length_of-set rest i s)

pub set_stretch : (spans : List Span) (i : ℕ) (s d : Span) → i < length spans → stretch_of s ≡ stretch_of (slice_index_or spans i d) → stretches_of (set spans i s) ≡ stretches_of spans
set_stretch [] i s d within same = refl
set_stretch (x ∷ rest) zero s d within same = ap (λ t. t ∷ stretches_of rest) same
set_stretch (x ∷ rest) (suc i) s d within same = ap (λ ts. stretch_of x ∷ ts) (set_stretch rest i s d (omega arith) same)

same_limits : (spans : List Span) (i : ℕ) (s e : Span) → i < length spans → s.limit ≡ (slice_index_or spans i e).limit → (j : ℕ) (d : Span) → (slice_index_or (set spans i s) j d).limit ≡ (slice_index_or spans j d).limit
same_limits [] i s e within same j d = refl
same_limits (x ∷ rest) zero s e within same zero d = same
same_limits (x ∷ rest) zero s e within same (suc j) d = refl
same_limits (x ∷ rest) (suc i) s e within same zero d = refl
same_limits (x ∷ rest) (suc i) s e within same (suc j) d = same_limits rest i s e (omega arith) same j d

same_slower : (spans : List Span) (i : ℕ) (s e : Span) → i < length spans → s.slower_in ≡ (slice_index_or spans i e).slower_in → (j : ℕ) (d : Span) → (slice_index_or (set spans i s) j d).slower_in ≡ (slice_index_or spans j d).slower_in
same_slower [] i s e within same j d = refl
same_slower (x ∷ rest) zero s e within same zero d = same
same_slower (x ∷ rest) zero s e within same (suc j) d = refl
same_slower (x ∷ rest) (suc i) s e within same zero d = refl
same_slower (x ∷ rest) (suc i) s e within same (suc j) d = same_slower rest i s e (omega arith) same j d

module _ (spans : List Span) (i : ℕ) (s e : Span) (within : i < length spans) (same : s.limit ≡ (slice_index_or spans i e).limit) where
  -- where limits stay, so does where they are lower
  pub slower_kept : (j n : ℕ) → IsNextSlower spans j n → IsNextSlower (set spans i s) j n
  slower_kept j n h =
      let limit = same_limits spans i s e within same in
      let count = length_of-set spans i s in
      record {
        after = h.after;
        within = rw count h.within;
        none = λ k past near d. rw (limit j d, limit k d) (h.none k past near d);
        slower = λ far d. rw (limit j d, limit n d) (h.slower (omega arith) d);
      }

  -- and where the slowest of a block are
  pub slowest_kept : (j n : ℕ) → IsSlowestOfBlock spans j n → IsSlowestOfBlock (set spans i s) j n
  slowest_kept j n h =
      let limit = same_limits spans i s e within same in
      let count = length_of-set spans i s in
      record {
        after = h.after;
        within = rw count h.within;
        in_block = h.in_block;
        some = λ more. (let inside = h.some (omega arith) in omega arith);
        before = λ k past near inside d. rw (limit n d, limit k d) (h.before k past near (omega arith) d);
        past = λ k later near inside d. rw (limit n d, limit k d) (h.past k later near (omega arith) d);
      }

  pub none_slower_still : s.slower_in ≡ (slice_index_or spans i e).slower_in → NoneSlower spans → NoneSlower (set spans i s)
  none_slower_still mark none j k d before inside near =
      let limit = same_limits spans i s e within same in
      let count = length_of-set spans i s in
      let marks = same_slower spans i s e within mark j d in
      rw (limit j d, limit k d) (none j k d before (omega arith) (omega arith))

-- where the spans after one are marked with what is so of them, and it as well, all from it on are
module _ (Is : List Span → ℕ → ℕ → Type 0) (mark : Span → ℕ) (spans : List Span) (i : ℕ) (s : Span) (within : i < length spans) (kept : (j n : ℕ) → Is spans j n → Is (set spans i s) j n) where
  pub one_more : (n : ℕ) → i < n → Is spans i n → mark s ≡ n - i → ((j : ℕ) (d : Span) → i < j → j < length spans → Is spans j (j + mark (slice_index_or spans j d)))
      → (j : ℕ) (d : Span) → i ≤ j → j < length (set spans i s) → Is (set spans i s) j (j + mark (slice_index_or (set spans i s) j d))
  one_more n after next marks marked j d from inside = go (eq-or-lt_of_le from)
    where
      go : (i ≡ j) ⊎ (i < j) → Is (set spans i s) j (j + mark (slice_index_or (set spans i s) j d))
      go (inl here) =
          let sum : i + mark s ≡ n = omega arith in
          subst (λ k. Is (set spans i s) k (k + mark (slice_index_or (set spans i s) k d))) here (rw (set_here spans i s d within, sum) (kept i n next))
      go (inr before) = rw (set_before spans i j s d before) (kept j _ (marked j d before (let count = length_of-set spans i s in omega arith)))

-- no span up to the slowest of a block is slower
pub least_of_slowest : (spans : List Span) → ((i : ℕ) (d : Span) → i < length spans → IsSlowestOfBlock spans i (i + (slice_index_or spans i d).least_in)) → LeastAhead spans
least_of_slowest spans marked i j m d before near inside is =
    let h : IsSlowestOfBlock spans i m = subst (IsSlowestOfBlock spans i) (sym is) (marked i d (omega arith)) in
    h.before j before near inside d

-- no limit is lower up to another span, at that, and up to the next that is lower than that
pub further : (spans : List Span) (i n m : ℕ) (a b : Span) → a ≡ slice_index_or spans i a → b ≡ slice_index_or spans n b → a.limit ≤ℤ b.limit → i < n → n < length spans → IsNextSlower spans n m
    → ((j : ℕ) (d : Span) → i < j → j < n → (slice_index_or spans i d).limit ≤ℤ (slice_index_or spans j d).limit)
    → (j : ℕ) (d : Span) → i < j → j < m → (slice_index_or spans i d).limit ≤ℤ (slice_index_or spans j d).limit
further spans i n m a b is_a is_b less before within next none j d past near = go (cases_lt j n)
  where
    here : (slice_index_or spans i d).limit ≤ℤ (slice_index_or spans n d).limit
    here = rw (any_other spans i d a (omega arith) ∙ sym is_a, any_other spans n d b within ∙ sym is_b) less

    go : (j < n) ⊎ (n ≤ j) → (slice_index_or spans i d).limit ≤ℤ (slice_index_or spans j d).limit
    go (inl sooner) = none j d past sooner
    go (inr later) = at (eq-or-lt_of_le later)
      where
        at : (n ≡ j) ⊎ (n < j) → (slice_index_or spans i d).limit ≤ℤ (slice_index_or spans j d).limit
        at (inl same) = subst (λ k. (slice_index_or spans i d).limit ≤ℤ (slice_index_or spans k d).limit) same here
        at (inr after) = let there = next.none j after near d in let e = here in omega (arith, ints)

-- spans that are the same stretches end at the same places
same_ends : (xs ys : List Span) → stretches_of xs ≡ stretches_of ys → (i : ℕ) (d : Span) → nat_abs (slice_index_or xs i d).end ≡ nat_abs (slice_index_or ys i d).end
same_ends [] [] same i d = refl
same_ends [] (y ∷ ys) same i d = absurd (let n = ap length same in omega arith)
same_ends (x ∷ xs) [] same i d = absurd (let n = ap length same in omega arith)
same_ends (x ∷ xs) (y ∷ ys) same zero d = ap (λ ts. (slice_index_or ts 0 (stretch_of x)).end) same
same_ends (x ∷ xs) (y ∷ ys) same (suc i) d = same_ends xs ys (ap (drop 1) same) i d

-- so they rise alike
pub rising_alike : (xs ys : List Span) → stretches_of xs ≡ stretches_of ys → IsRising ys → IsRising xs
rising_alike xs ys same rising i j d before within =
    let count : length xs ≡ length ys = sym (length-map xs stretch_of) ∙ ap length same ∙ length-map ys stretch_of in
    let below : (slice_index_or ys i d).end <ℤ (slice_index_or ys j d).end = rising i j d before (omega arith) in
    let first = same_ends xs ys same i d in
    let second = same_ends xs ys same j d in
    let a = (slice_index_or xs i d).end_range.at_least in
    let b = (slice_index_or xs j d).end_range.at_least in
    let c = (slice_index_or ys i d).end_range.at_least in
    let e = (slice_index_or ys j d).end_range.at_least in
    omega (arith, ints)
