-- Of spans that rise, those that end past a place are the rest from some index on.
use Rattle.std.proofs.Common.{◌≡◌, ℕ, zero, suc, ◌+◌, ◌-◌, ◌≤◌, ◌<◌, ◌⊎◌, inl, inr, nat_abs, ◌<ℤ◌, Bool, true, false, ◌&&◌, ◌||◌, if◌then◌else◌, min, max, List, [], ◌∷◌, filter, drop, length, slice_index_or, nat_le, nat_lt, Option, None, refl, sym, ◌∙◌, ap, subst, arith, le_refl, ltb-false, eq-or-lt_of_le}
use Rattle.std.specs.List.{AllWithin}
use Rattle.std.specs.List.Sorted.{IsNonDecreasingBy}
use Rattle.std.proofs.lemmas.Int.{ints}
use Rattle.std.proofs.lemmas.Bool.{le-leb, lt-leb}
use Rattle.std.proofs.lemmas.Grind.{common_steps}
use Rattle.rail_spec.specs.Motion.{limit_at, keeps_limits, can_brake, may_stop, braking_distance}
use Rattle.rail_laws.proofs.MotionLaws.{keeps_limits_tells, keeps_limits_from}
use Rattle.rail_motion.specs.declared.Span.{Span}
use Rattle.rail_motion.specs.Track.{stretch_of, stretches_of, IsRising}
use Rattle.rail_motion.specs.Braking.{faster_distance}
use Rattle.rail_motion.proofs.Points.{keeps_span, keeps_spans, can_brake_by_spans, can_brake_and_stop}

-- the ends of rising spans do not fall
pub ends_rise : (spans : List Span) → IsRising spans → IsNonDecreasingBy (λ s. nat_abs s.end) spans
ends_rise spans rising i j d less within = go (eq-or-lt_of_le less)
  where
    go : (i ≡ j) ⊎ (i < j) → nat_abs (slice_index_or spans i d).end ≤ nat_abs (slice_index_or spans j d).end
    go (inl same) = rw same (omega arith)
    go (inr before) =
        let below : (slice_index_or spans i d).end <ℤ (slice_index_or spans j d).end = rising i j d before within in
        let first = (slice_index_or spans i d).end_range in
        omega (arith, ints)

-- a filter that none passes before an index, and each from there on
pub filter_from : {X : Type 0} (p : X → Bool) (xs : List X) (i : ℕ) → AllWithin (λ x. p x ≡ false) xs 0 i → AllWithin (λ x. p x ≡ true) xs i (length xs) → filter p xs ≡ drop i xs
filter_from p [] i before after = grind (arith, common_steps)
filter_from p (x ∷ xs) zero before after =
    rw (after zero x (omega arith) (omega arith))
    (ap (λ rest. x ∷ rest) (filter_from p xs zero (λ k d l m. absurd (omega arith)) (λ k d l m. after (suc k) d (omega arith) (omega arith))))
filter_from p (x ∷ xs) (suc i) before after =
    rw (before zero x (omega arith) (omega arith))
    (filter_from p xs i (λ k d l m. before (suc k) d (omega arith) (omega arith)) (λ k d l m. after (suc k) d (omega arith) (omega arith)))

-- the spans that end by a place say nothing of the points past it
pub limit_at_past : (top x : ℕ) (spans : List Span) (p : ℕ) → x < p → limit_at top (stretches_of (filter (λ s. nat_lt x (nat_abs s.end)) spans)) p ≡ limit_at top (stretches_of spans) p
limit_at_past top x [] p past = refl
limit_at_past top x (s ∷ rest) p past = go (nat_lt x (nat_abs s.end)) refl (limit_at_past top x rest p past)
  where
    go : (t : Bool) → nat_lt x (nat_abs s.end) ≡ t
        → limit_at top (stretches_of (filter (λ s. nat_lt x (nat_abs s.end)) rest)) p ≡ limit_at top (stretches_of rest) p
        → limit_at top (stretches_of (if t then s ∷ filter (λ s. nat_lt x (nat_abs s.end)) rest else filter (λ s. nat_lt x (nat_abs s.end)) rest)) p
        ≡ (if nat_le p (nat_abs s.end) then nat_abs s.limit else limit_at top (stretches_of rest) p)
    go true e later = ap (λ limit. if nat_le p (nat_abs s.end) then nat_abs s.limit else limit) later
    go false e later = rw (lt-leb p (nat_abs s.end) (let before = ltb-false x (nat_abs s.end) e in omega arith)) later

-- so limits that are kept on the others are kept on all
pub keeps_limits_past : (spans : List Span) (x y u : ℕ) → keeps_limits (stretches_of (filter (λ s. nat_lt x (nat_abs s.end)) spans)) x y u ≡ true → keeps_limits (stretches_of spans) x y u ≡ true
keeps_limits_past spans x y u kept =
    keeps_limits_from u _ x y u (λ p past near. subst (λ limit. u ≤ limit) (limit_at_past u x spans p past) (keeps_limits_tells u _ x y u (le_refl u) kept p past near))

-- the spans that end before the tail do not matter
pub can_brake_past : (n b tail : ℕ) (spans : List Span) (x u : ℕ) → 1 ≤ b → u ≤ n
    → can_brake n b tail (stretches_of (filter (λ s. nat_lt (x - tail) (nat_abs s.end)) spans)) None x u ≡ can_brake n b tail (stretches_of spans) None x u
can_brake_past n b tail spans x u slows bound =
    can_brake_by_spans n b tail _ x u slows bound ∙ keeps_past spans (x - tail) (omega arith) ∙ sym (can_brake_by_spans n b tail (stretches_of spans) x u slows bound)
  where
    or_last : (s t : Bool) → t ≡ true → (s || t) ≡ true
    or_last true t e = refl
    or_last false t e = e

    keeps_past : (spans : List Span) (start : ℕ) → x - tail ≤ start → keeps_spans n b (stretches_of (filter (λ s. nat_lt (x - tail) (nat_abs s.end)) spans)) start x u ≡ keeps_spans n b (stretches_of spans) start x u
    keeps_past [] start begun = refl
    keeps_past (s ∷ rest) start begun = go (nat_lt (x - tail) (nat_abs s.end)) refl (keeps_past rest start begun) (keeps_past rest (max start (nat_abs s.end)) (omega arith))
      where
        go : (t : Bool) → nat_lt (x - tail) (nat_abs s.end) ≡ t
            → keeps_spans n b (stretches_of (filter (λ s. nat_lt (x - tail) (nat_abs s.end)) rest)) start x u ≡ keeps_spans n b (stretches_of rest) start x u
            → keeps_spans n b (stretches_of (filter (λ s. nat_lt (x - tail) (nat_abs s.end)) rest)) (max start (nat_abs s.end)) x u ≡ keeps_spans n b (stretches_of rest) (max start (nat_abs s.end)) x u
            → keeps_spans n b (stretches_of (if t then s ∷ filter (λ s. nat_lt (x - tail) (nat_abs s.end)) rest else filter (λ s. nat_lt (x - tail) (nat_abs s.end)) rest)) start x u
            ≡ (keeps_span n b (stretch_of s) start x u && keeps_spans n b (stretches_of rest) (max start (nat_abs s.end)) x u)
        go true e here next = ap (λ t. keeps_span n b (stretch_of s) start x u && t) next
        go false e here next =
            let before = ltb-false (x - tail) (nat_abs s.end) e in
            let same : max start (nat_abs s.end) ≡ start = omega arith in
            let kept : keeps_span n b (stretch_of s) start x u ≡ true = or_last _ _ (le-leb (min (x + faster_distance n b (nat_abs s.limit) u) (nat_abs s.end)) start (omega arith)) in
            rw (kept, same) here

-- so full braking is decided by those past it, and by where it stops
pub can_brake_is : (n b tail : ℕ) (spans past : List Span) (end : Option ℕ) (x u way : ℕ) (stops keeps : Bool) → 1 ≤ b → u ≤ n → past ≡ filter (λ s. nat_lt (x - tail) (nat_abs s.end)) spans → way ≡ braking_distance n b u
    → stops ≡ may_stop end (x + u + way) → keeps ≡ can_brake n b tail (stretches_of past) None x u → can_brake n b tail (stretches_of spans) end x u ≡ (stops && keeps)
can_brake_is n b tail spans past end x u way stops keeps slows bound ahead braked stopped kept =
    can_brake_and_stop n b tail (stretches_of spans) end x u ∙ turned stops keeps (can_brake n b tail (stretches_of spans) None x u) (may_stop end (x + u + braking_distance n b u))
    (kept ∙ ap (λ ss. can_brake n b tail (stretches_of ss) None x u) ahead ∙ can_brake_past n b tail spans x u slows bound)
    (stopped ∙ ap (λ w. may_stop end (x + u + w)) braked)
  where
    and_turned : (s k : Bool) → (k && s) ≡ (s && k)
    and_turned true true = refl
    and_turned true false = refl
    and_turned false true = refl
    and_turned false false = refl

    turned : (s k k' s' : Bool) → k ≡ k' → s ≡ s' → (k' && s') ≡ (s && k)
    turned s k k' s' a b = cc (and_turned s k)
