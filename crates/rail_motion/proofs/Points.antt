-- Full braking keeps the limits where no point is covered by a move that is faster than its limit.
use Rattle.std.proofs.Common.{◌≡◌, ℕ, zero, suc, ◌+◌, ◌-◌, ◌≤◌, ◌<◌, ◌⊎◌, inl, inr, min, max, Bool, true, false, ◌&&◌, ◌||◌, if◌then◌else◌, List, [], ◌∷◌, nat_le, Option, None, refl, sym, ◌∙◌, ap, arith, leb-true, leb-false, le-leb}
use Rattle.std.proofs.lemmas.Bool.{cases_lt, and_parts, and_from}
use Rattle.rail_spec.specs.Motion.{SpanSeen, limit_at, keeps_limits, may_stop, can_brake, braking_distance}
use Rattle.rail_laws.proofs.MotionLaws.{keeps_limits_tells, keeps_limits_from}
use Rattle.rail_motion.specs.Braking.{faster_distance}
use Rattle.rail_motion.proofs.Distances.{faster_none, faster_more, faster_within}

-- no point past start has a lower limit than a move that covers it, from x and u on
abbrev pub KeepsPoints : ℕ → ℕ → ℕ → List SpanSeen → ℕ → ℕ → ℕ → Type 0
KeepsPoints top moves b stretches start x u =
    (p : ℕ) → start < p → limit_at top stretches p < u → x + faster_distance moves b (limit_at top stretches p) u < p

-- ---- braking by its moves

points_step : (n b limit x p u : ℕ) → (p ≤ x + suc u → suc u ≤ limit) → (x + suc u < p → limit < suc u - b → (x + suc u) + faster_distance n b limit (suc u - b) < p) → limit < suc u
    → x + faster_distance (suc n) b limit (suc u) < p
points_step n b limit x p u here later fast = go (cases_lt (x + suc u) p) (cases_lt limit (suc u - b))
  where
    go : (x + suc u < p) ⊎ (p ≤ x + suc u) → (limit < suc u - b) ⊎ (suc u - b ≤ limit) → x + faster_distance (suc n) b limit (suc u) < p
    go (inl far) (inl above) = let more = faster_more n b limit (suc u) fast in let h = later far above in omega arith
    go (inl far) (inr below) = let more = faster_more n b limit (suc u) fast in let none = faster_none n b limit (suc u - b) below in omega arith
    go (inr near) w = let slow = here near in absurd (omega arith)

pub can_brake_tells : (top n b tail : ℕ) (ss : List SpanSeen) (x u : ℕ) → u ≤ top → can_brake n b tail ss None x u ≡ true → KeepsPoints top n b ss (x - tail) x u
can_brake_tells top n b tail ss x zero fits h = λ p past fast. absurd (omega arith)
can_brake_tells top zero b tail ss x (suc u) fits h = cc
can_brake_tells top (suc n) b tail ss x (suc u) fits h =
    let parts = and_parts (keeps_limits ss (x - tail) (x + suc u) (suc u)) (can_brake n b tail ss None (x + suc u) (suc u - b)) h in
    λ p past fast.
    points_step n b (limit_at top ss p) x p u (keeps_limits_tells top ss (x - tail) (x + suc u) (suc u) fits parts.0 p past)
    (λ far above. can_brake_tells top n b tail ss (x + suc u) (suc u - b) (omega arith) parts.1 p (omega arith) above) fast

pub can_brake_from : (top n b tail : ℕ) (ss : List SpanSeen) (x u : ℕ) → 1 ≤ b → u ≤ n → KeepsPoints top n b ss (x - tail) x u → can_brake n b tail ss None x u ≡ true
can_brake_from top n b tail ss x zero slows bound h = refl
can_brake_from top zero b tail ss x (suc u) slows bound h = absurd (omega arith)
can_brake_from top (suc n) b tail ss x (suc u) slows bound h =
    and_from _ _ (keeps_limits_from top ss (x - tail) (x + suc u) (suc u) (λ p past near. slow_here (limit_at top ss p) p (h p past) near))
    (can_brake_from top n b tail ss (x + suc u) (suc u - b) slows (omega arith) (λ p past above. later (limit_at top ss p) p above (h p (omega arith) (omega arith))))
  where
    slow_here : (limit p : ℕ) → (limit < suc u → x + faster_distance (suc n) b limit (suc u) < p) → p ≤ x + suc u → suc u ≤ limit
    slow_here limit p k near = go (cases_lt limit (suc u))
      where
        go : (limit < suc u) ⊎ (suc u ≤ limit) → suc u ≤ limit
        go (inl fast) = let more = faster_more n b limit (suc u) fast in let past = k fast in absurd (omega arith)
        go (inr slow) = slow

    later : (limit p : ℕ) → limit < suc u - b → x + faster_distance (suc n) b limit (suc u) < p → (x + suc u) + faster_distance n b limit (suc u - b) < p
    later limit p above k = let more = faster_more n b limit (suc u) (omega arith) in omega arith

-- ---- braking by the spans

-- the limit allows the speed, or no point of the stretch past start is covered by the moves above the limit
abbrev pub keeps_span : ℕ → ℕ → SpanSeen → ℕ → ℕ → ℕ → Bool
keeps_span moves b s start x u = nat_le u s.limit || nat_le (min (x + faster_distance moves b s.limit u) s.end) start

-- so it is of each stretch
abbrev pub keeps_spans : ℕ → ℕ → List SpanSeen → ℕ → ℕ → ℕ → Bool
keeps_spans moves b [] start x u = true
keeps_spans moves b (s ∷ rest) start x u = keeps_span moves b s start x u && keeps_spans moves b rest (max start s.end) x u

pub span_tells : (n b : ℕ) (s : SpanSeen) (start x u : ℕ) → keeps_span n b s start x u ≡ true → s.limit < u → min (x + faster_distance n b s.limit u) s.end ≤ start
span_tells n b s start x u h fast = go (nat_le u s.limit) refl h
  where
    go : (t : Bool) → nat_le u s.limit ≡ t → (t || nat_le (min (x + faster_distance n b s.limit u) s.end) start) ≡ true → min (x + faster_distance n b s.limit u) s.end ≤ start
    go true e k = let slow = leb-true u s.limit e in absurd (omega arith)
    go false e k = leb-true (min (x + faster_distance n b s.limit u) s.end) start k

pub span_from : (n b : ℕ) (s : SpanSeen) (start x u : ℕ) → (s.limit < u → min (x + faster_distance n b s.limit u) s.end ≤ start) → keeps_span n b s start x u ≡ true
span_from n b s start x u h = go (nat_le u s.limit) refl
  where
    go : (t : Bool) → nat_le u s.limit ≡ t → (t || nat_le (min (x + faster_distance n b s.limit u) s.end) start) ≡ true
    go true e = refl
    go false e = le-leb _ start (h (leb-false u s.limit e))

pub keeps_spans_tells : (top n b : ℕ) (ss : List SpanSeen) (start x u : ℕ) → u ≤ top → keeps_spans n b ss start x u ≡ true → KeepsPoints top n b ss start x u
keeps_spans_tells top n b [] start x u fits h = λ p past fast. absurd (omega arith)
keeps_spans_tells top n b (s ∷ rest) start x u fits h =
    let parts = and_parts (keeps_span n b s start x u) (keeps_spans n b rest (max start s.end) x u) h in
    λ p past. go p past (keeps_spans_tells top n b rest (max start s.end) x u fits parts.1 p) (nat_le p s.end) refl (span_tells n b s start x u parts.0)
  where
    go : (p : ℕ) → start < p → (max start s.end < p → limit_at top rest p < u → x + faster_distance n b (limit_at top rest p) u < p)
        → (t : Bool) → nat_le p s.end ≡ t → (s.limit < u → min (x + faster_distance n b s.limit u) s.end ≤ start)
        → (if t then s.limit else limit_at top rest p) < u → x + faster_distance n b (if t then s.limit else limit_at top rest p) u < p
    go p past later true e here fast = let on = leb-true p s.end e in let k = here fast in omega arith
    go p past later false e here fast = let off = leb-false p s.end e in later (omega arith) fast

pub keeps_spans_from : (top n b : ℕ) (ss : List SpanSeen) (start x u : ℕ) → KeepsPoints top n b ss start x u → keeps_spans n b ss start x u ≡ true
keeps_spans_from top n b [] start x u h = refl
keeps_spans_from top n b (s ∷ rest) start x u h =
    and_from _ _ (span_from n b s start x u (λ fast. here fast (cases_lt start (min (x + faster_distance n b s.limit u) s.end))))
    (keeps_spans_from top n b rest (max start s.end) x u (λ p past. later p past (h p (omega arith))))
  where
    on : (t : Bool) (p : ℕ) → nat_le p s.end ≡ t → p ≤ s.end
        → ((if t then s.limit else limit_at top rest p) < u → x + faster_distance n b (if t then s.limit else limit_at top rest p) u < p) → s.limit < u → x + faster_distance n b s.limit u < p
    on true p e within k = k
    on false p e within k = let off = leb-false p s.end e in absurd (omega arith)

    here : s.limit < u → (start < min (x + faster_distance n b s.limit u) s.end) ⊎ (min (x + faster_distance n b s.limit u) s.end ≤ start) → min (x + faster_distance n b s.limit u) s.end ≤ start
    here fast (inl covered) =
        let p = min (x + faster_distance n b s.limit u) s.end in
        let less = on (nat_le p s.end) p refl (omega arith) (h p covered) fast in
        absurd (omega arith)
    here fast (inr clear) = clear

    later : (p : ℕ) → max start s.end < p → (limit_at top (s ∷ rest) p < u → x + faster_distance n b (limit_at top (s ∷ rest) p) u < p)
        → limit_at top rest p < u → x + faster_distance n b (limit_at top rest p) u < p
    later p past k = off (nat_le p s.end) refl k
      where
        off : (t : Bool) → nat_le p s.end ≡ t → ((if t then s.limit else limit_at top rest p) < u → x + faster_distance n b (if t then s.limit else limit_at top rest p) u < p)
            → limit_at top rest p < u → x + faster_distance n b (limit_at top rest p) u < p
        off true e k = let within = leb-true p s.end e in absurd (omega arith)
        off false e k = k

same_tests : (s t : Bool) → (s ≡ true → t ≡ true) → (t ≡ true → s ≡ true) → s ≡ t
same_tests true t there back = sym (there refl)
same_tests false true there back = back refl
same_tests false false there back = refl

pub can_brake_by_spans : (n b tail : ℕ) (ss : List SpanSeen) (x u : ℕ) → 1 ≤ b → u ≤ n → can_brake n b tail ss None x u ≡ keeps_spans n b ss (x - tail) x u
can_brake_by_spans n b tail ss x u slows bound =
    same_tests _ _ (λ h. keeps_spans_from u n b ss (x - tail) x u (can_brake_tells u n b tail ss x u (omega arith) h))
    (λ h. can_brake_from u n b tail ss x u slows bound (keeps_spans_tells u n b ss (x - tail) x u (omega arith) h))

-- past the braking way nothing is covered
pub keeps_spans_past : (n b : ℕ) (ss : List SpanSeen) (start x u : ℕ) → x + u + braking_distance n b u ≤ start → keeps_spans n b ss start x u ≡ true
keeps_spans_past n b ss start x u past = keeps_spans_from 0 n b ss start x u (λ p k fast. let within = faster_within n b (limit_at 0 ss p) u in omega arith)

-- where the moves stop apart from the limits
pub can_brake_and_stop : (n b tail : ℕ) (ss : List SpanSeen) (end : Option ℕ) (x u : ℕ) → can_brake n b tail ss end x u ≡ (can_brake n b tail ss None x u && may_stop end (x + u + braking_distance n b u))
can_brake_and_stop n b tail ss end x zero = let same : x + 0 + 0 ≡ x = omega arith in ap (may_stop end) (sym same)
can_brake_and_stop zero b tail ss end x (suc u) = refl
can_brake_and_stop (suc n) b tail ss end x (suc u) =
    and_step (keeps_limits ss (x - tail) (x + suc u) (suc u)) _ (can_brake n b tail ss None (x + suc u) (suc u - b)) _ _
    (can_brake_and_stop n b tail ss end (x + suc u) (suc u - b)) (ap (may_stop end) (let w = braking_distance n b (suc u - b) in omega arith))
  where
    and_step : (keeps all rest stop stop' : Bool) → all ≡ (rest && stop) → stop ≡ stop' → (keeps && all) ≡ ((keeps && rest) && stop')
    and_step true all rest stop stop' e same = e ∙ ap (λ t. rest && t) same
    and_step false all rest stop stop' e same = refl
