-- Where a span is not in the way, those after it are not until the limit is lower.
use Rattle.std.proofs.Common.{◌≡◌, ℕ, zero, suc, ◌+◌, ◌-◌, ◌≤◌, ◌<◌, ◌⊎◌, inl, inr, nat_abs, ◌<ℤ◌, ◌≤ℤ◌, max, Bool, true, ◌&&◌, List, [], ◌∷◌, drop, length, slice_index_or, refl, sym, ◌∙◌, ap, ap₂, subst, arith, eq-or-lt_of_le}
use Rattle.std.proofs.lemmas.Int.{ints}
use Rattle.std.proofs.lemmas.Bool.{cases_lt, and_parts}
use Rattle.rail_motion.specs.declared.Span.{Span}
use Rattle.rail_motion.specs.Track.{stretch_of, stretches_of, IsRising, LeastAhead, NoneSlower}
use Rattle.rail_motion.specs.Braking.{faster_distance}
use Rattle.rail_motion.proofs.Distances.{faster_more, faster_none}
use Rattle.rail_motion.proofs.Marking.{any_other}
use Rattle.rail_motion.proofs.Points.{keeps_span, keeps_spans, span_from}

-- the moves above a higher limit are no longer
pub faster_lower : (n b low high u : ℕ) → low ≤ high → faster_distance n b high u ≤ faster_distance n b low u
faster_lower zero b low high u less = omega arith
faster_lower (suc n) b low high u less = go (cases_lt high u) (faster_lower n b low high (u - b) less)
  where
    go : (high < u) ⊎ (u ≤ high) → faster_distance n b high (u - b) ≤ faster_distance n b low (u - b) → faster_distance (suc n) b high u ≤ faster_distance (suc n) b low u
    go (inl fast) h = let a = faster_more n b high u fast in let c = faster_more n b low u (omega arith) in omega arith
    go (inr slow) h = let a = faster_none (suc n) b high u slow in omega arith

-- the list from an index on begins with its member
pub from_index : (spans : List Span) (i : ℕ) (d : Span) → i < length spans → drop i spans ≡ slice_index_or spans i d ∷ drop (suc i) spans
from_index [] i d within = absurd (omega arith)
from_index (s ∷ rest) zero d within = refl
from_index (s ∷ rest) (suc i) d within = from_index rest i d (omega arith)

-- what is true of a list's spans is so of those from an index on
pub none_slower_from : (spans : List Span) (k : ℕ) → NoneSlower spans → NoneSlower (drop k spans)
none_slower_from spans zero none = none
none_slower_from [] (suc k) none = none
none_slower_from (s ∷ rest) (suc k) none = none_slower_from rest k (λ i j d before within near. none (suc i) (suc j) d (omega arith) (omega arith) (omega arith))

pub least_from : (spans : List Span) (k : ℕ) → LeastAhead spans → LeastAhead (drop k spans)
least_from spans zero least = least
least_from [] (suc k) least = least
least_from (s ∷ rest) (suc k) least = least_from rest k (λ i j m d before near within is. least (suc i) (suc j) (suc m) d (omega arith) (omega arith) (omega arith) (omega arith))

module _ (n b : ℕ) (spans : List Span) (x u : ℕ) (rising : IsRising spans) where
  -- no span from one on, so many, has points past the start that its faster moves cover
  abbrev pub NotInTheWay : ℕ → ℕ → ℕ → Type 0
  NotInTheWay i k start = (j : ℕ) (d : Span) → i ≤ j → j < i + k → nat_abs (slice_index_or spans j d).limit < u → x + faster_distance n b (nat_abs (slice_index_or spans j d).limit) u ≤ start

  -- the spans from one on end past the start
  abbrev pub EndPast : ℕ → ℕ → Type 0
  EndPast i start = (j : ℕ) (d : Span) → i ≤ j → j < length spans → start < nat_abs (slice_index_or spans j d).end

  -- from the end of one on so they do
  pub ends_past : (i : ℕ) (d : Span) → EndPast (suc i) (nat_abs (slice_index_or spans i d).end)
  ends_past i d j e later within =
      let same = any_other spans i d e (omega arith) in
      let below : (slice_index_or spans i e).end <ℤ (slice_index_or spans j e).end = rising i j e (omega arith) within in
      let low = (slice_index_or spans i e).end_range.at_least in
      let high = (slice_index_or spans j e).end_range.at_least in
      rw same (omega (arith, ints))

  -- and so from where the last of so many ends
  pub ends_past_from : (m : ℕ) (t : Span) → t ≡ slice_index_or spans (m - 1) t → (start : ℕ) → start ≡ nat_abs t.end → 1 ≤ m → EndPast m start
  ends_past_from m t last start same some j e from within =
      let h : nat_abs (slice_index_or spans (m - 1) t).end < nat_abs (slice_index_or spans j e).end = ends_past (m - 1) t j e (omega arith) within in
      let here = ap (λ s. nat_abs s.end) last in
      omega arith

  -- the span at an index keeps its limit past a place
  abbrev keep_at : ℕ → ℕ → Span → Bool
  keep_at i start d = keeps_span n b (stretch_of (slice_index_or spans i d)) start x u

  skip_one : (i start : ℕ) (d : Span) → i < length spans → EndPast i start → NotInTheWay i 1 start → keeps_spans n b (stretches_of (drop i spans)) start x u ≡ keeps_spans n b (stretches_of (drop (suc i) spans)) (nat_abs (slice_index_or spans i d).end) x u
  skip_one i start d within past kept =
      let s = slice_index_or spans i d in
      let cut = from_index spans i d within in
      let here : keeps_span n b (stretch_of s) start x u ≡ true = span_from n b (stretch_of s) start x u (λ fast. let h = kept i d (omega arith) (omega arith) fast in omega arith) in
      let end : max start (nat_abs s.end) ≡ nat_abs s.end = (let h = past i d (omega arith) within in omega arith) in
      ap (λ ss. keeps_spans n b (stretches_of ss) start x u) cut ∙ ap₂ (λ t e. t && keeps_spans n b (stretches_of (drop (suc i) spans)) e x u) here end

  -- what all spans from one on keep is kept by those after it
  rest_one : (i start : ℕ) (d : Span) → i < length spans → EndPast i start → keeps_spans n b (stretches_of (drop i spans)) start x u ≡ true
      → keeps_spans n b (stretches_of (drop (suc i) spans)) (nat_abs (slice_index_or spans i d).end) x u ≡ true
  rest_one i start d within past kept =
      let s = slice_index_or spans i d in
      let end : max start (nat_abs s.end) ≡ nat_abs s.end = (let h = past i d (omega arith) within in omega arith) in
      let parts = and_parts (keep_at i start d) _ (subst (λ ss. keeps_spans n b (stretches_of ss) start x u ≡ true) (from_index spans i d within) kept) in
      subst (λ e. keeps_spans n b (stretches_of (drop (suc i) spans)) e x u ≡ true) end parts.1

  -- and by those after so many
  rest_many : (i k start : ℕ) (d : Span) → i + suc k ≤ length spans → EndPast i start → keeps_spans n b (stretches_of (drop i spans)) start x u ≡ true
      → keeps_spans n b (stretches_of (drop (i + suc k) spans)) (nat_abs (slice_index_or spans (i + k) d).end) x u ≡ true
  rest_many i zero start d within past kept =
      let one : suc i ≡ i + 1 = omega arith in
      let same : i ≡ i + 0 = omega arith in
      subst (λ j. keeps_spans n b (stretches_of (drop (i + 1) spans)) (nat_abs (slice_index_or spans j d).end) x u ≡ true) same
      (subst (λ m. keeps_spans n b (stretches_of (drop m spans)) (nat_abs (slice_index_or spans i d).end) x u ≡ true) one (rest_one i start d (omega arith) past kept))
  rest_many i (suc k) start d within past kept =
      let more : suc i + suc k ≡ i + suc (suc k) = omega arith in
      let last : suc i + k ≡ i + suc k = omega arith in
      subst (λ j. keeps_spans n b (stretches_of (drop (i + suc (suc k)) spans)) (nat_abs (slice_index_or spans j d).end) x u ≡ true) last
      (subst (λ m. keeps_spans n b (stretches_of (drop m spans)) (nat_abs (slice_index_or spans (suc i + k) d).end) x u ≡ true) more
      (rest_many (suc i) k (nat_abs (slice_index_or spans i d).end) d (omega arith) (ends_past i d) (rest_one i start d (omega arith) past kept)))

  -- and by those from another on
  pub rest_from : (i m start : ℕ) (t : Span) → t ≡ slice_index_or spans (m - 1) t → i < m → m ≤ length spans → EndPast i start → keeps_spans n b (stretches_of (drop i spans)) start x u ≡ true
      → keeps_spans n b (stretches_of (drop m spans)) (nat_abs t.end) x u ≡ true
  rest_from i m start t last after within past kept =
      let k = m - i - 1 in
      let count : i + suc k ≡ m = omega arith in
      let before : i + k ≡ m - 1 = omega arith in
      subst (λ e. keeps_spans n b (stretches_of (drop m spans)) (nat_abs e.end) x u ≡ true) (ap (λ j. slice_index_or spans j t) before ∙ sym last)
      (subst (λ a. keeps_spans n b (stretches_of (drop a spans)) (nat_abs (slice_index_or spans (i + k) t).end) x u ≡ true) count (rest_many i k start t (omega arith) past kept))

  -- what is said of the spans from one on is said of those after so many, from where the last of these ends
  pub skip_many : (i k start : ℕ) (d : Span) → i + suc k ≤ length spans → EndPast i start → NotInTheWay i (suc k) start
      → keeps_spans n b (stretches_of (drop i spans)) start x u ≡ keeps_spans n b (stretches_of (drop (i + suc k) spans)) (nat_abs (slice_index_or spans (i + k) d).end) x u
  skip_many i zero start d within past kept =
      let one : i + 1 ≡ suc i = omega arith in
      let same : i + 0 ≡ i = omega arith in
      skip_one i start d (omega arith) past kept ∙ ap₂ (λ m j. keeps_spans n b (stretches_of (drop m spans)) (nat_abs (slice_index_or spans j d).end) x u) (sym one) (sym same)
  skip_many i (suc k) start d within past kept =
      let more : suc i + suc k ≡ i + suc (suc k) = omega arith in
      let last : suc i + k ≡ i + suc k = omega arith in
      let far = past i d (omega arith) (omega arith) in
      skip_one i start d (omega arith) past (λ j e low high. kept j e low (omega arith))
      ∙ skip_many (suc i) k (nat_abs (slice_index_or spans i d).end) d (omega arith) (ends_past i d) (λ j e low high fast. let h = kept j e (omega arith) (omega arith) fast in omega arith)
      ∙ ap₂ (λ m j. keeps_spans n b (stretches_of (drop m spans)) (nat_abs (slice_index_or spans j d).end) x u) more last

  -- up to another span none is lower than one, or each that is allows the speed
  abbrev pub NoneBetween : ℕ → ℕ → Type 0
  NoneBetween i m = (j : ℕ) (d : Span) → i < j → j < m → j < length spans → ((slice_index_or spans i d).limit ≤ℤ (slice_index_or spans j d).limit) ⊎ (u ≤ nat_abs (slice_index_or spans j d).limit)

  -- where one is not in the way, none is until then
  pub until_slower : (i k start : ℕ) (s : Span) → NoneBetween i (i + k) → s ≡ slice_index_or spans i s → i + k ≤ length spans → (nat_abs s.limit < u → x + faster_distance n b (nat_abs s.limit) u ≤ start) → NotInTheWay i k start
  until_slower i k start s none is within kept j d from near = go (eq-or-lt_of_le from)
    where
      same : slice_index_or spans i d ≡ s
      same = any_other spans i d s (omega arith) ∙ sym is

      go : (i ≡ j) ⊎ (i < j) → nat_abs (slice_index_or spans j d).limit < u → x + faster_distance n b (nat_abs (slice_index_or spans j d).limit) u ≤ start
      go (inl e) fast = subst (λ m. nat_abs (slice_index_or spans m d).limit < u → x + faster_distance n b (nat_abs (slice_index_or spans m d).limit) u ≤ start) e (subst (λ t. nat_abs t.limit < u → x + faster_distance n b (nat_abs t.limit) u ≤ start) (sym same) kept) fast
      go (inr after) fast = at (none j d after near (omega arith))
        where
          t : Span
          t = slice_index_or spans j d

          at : ((slice_index_or spans i d).limit ≤ℤ t.limit) ⊎ (u ≤ nat_abs t.limit) → x + faster_distance n b (nat_abs t.limit) u ≤ start
          at (inl low) =
              let higher : s.limit ≤ℤ t.limit = subst (λ r. r.limit ≤ℤ t.limit) same low in
              let positive = s.limit_range.at_least in
              let less : nat_abs s.limit ≤ nat_abs t.limit = omega (arith, ints) in
              let h = kept (omega arith) in
              let shorter = faster_lower n b (nat_abs s.limit) (nat_abs t.limit) u less in
              omega arith
          at (inr allows) = absurd (omega arith)

  -- so what is said of the spans from one on is said of those from another on, up to which none is slower
  pub skip : (i m start : ℕ) (s t : Span) → NoneBetween i m → s ≡ slice_index_or spans i s → t ≡ slice_index_or spans (m - 1) t → i < m → m ≤ length spans → EndPast i start
      → (nat_abs s.limit < u → x + faster_distance n b (nat_abs s.limit) u ≤ start) → keeps_spans n b (stretches_of (drop i spans)) start x u ≡ keeps_spans n b (stretches_of (drop m spans)) (nat_abs t.end) x u
  skip i m start s t none is last after within past kept =
      let k = m - i - 1 in
      let count : i + suc k ≡ m = omega arith in
      let before : i + k ≡ m - 1 = omega arith in
      skip_many i k start t (omega arith) past (until_slower i (suc k) start s (λ j d low high inside. none j d low (omega arith) inside) is (omega arith) kept)
      ∙ ap₂ (λ a e. keeps_spans n b (stretches_of (drop a spans)) (nat_abs e.end) x u) count (ap (λ j. slice_index_or spans j t) before ∙ sym last)
