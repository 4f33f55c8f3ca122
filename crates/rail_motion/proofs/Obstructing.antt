-- What is in the way of a move keeps it from being permitted.
use Rattle.std.proofs.Common.{◌≡◌, ℕ, zero, suc, ◌+◌, ◌-◌, ◌≤◌, ◌<◌, ◌⊎◌, inl, inr, min, Bool, true, false, nat_abs, nat_lt, leb-true, unwrap_or, List, ◌∷◌, Option, Some, None, drop, length, slice_index_or, refl, sym, ◌∙◌, ap, subst, arith, ltb-true, le_refl}
use Rattle.std.specs.Option.{ForSome}
use Rattle.std.proofs.lemmas.Bool.{and_parts, and_from, both_ways, cases_lt, lt-ltb}
use Rattle.rail_spec.specs.Motion.{MotorSeen, SpanSeen, may_stop, can_brake, braking_distance, permitted}
use Rattle.rail_laws.proofs.MotionLaws.{permitted_brakes}
use Rattle.rail_motion.specs.declared.Span.{Span}
use Rattle.rail_motion.specs.declared.obstacle.Obstacle.{Obstacle}
use Rattle.rail_motion.specs.Track.{stretch_of, stretches_of}
use Rattle.rail_motion.specs.Braking.{faster_distance}
use Rattle.rail_motion.specs.Obstacles.{forbids}
use Rattle.rail_motion.proofs.Distances.{faster_none, faster_more, faster_within}
use Rattle.rail_motion.proofs.Points.{keeps_span, keeps_spans, span_tells, can_brake_and_stop}
use Rattle.rail_motion.proofs.Skipping.{from_index}

-- an obstacle that forbids a speed has a lower limit, and begins before the moves above that end
pub forbids_tells : (o : Obstacle) (b x w : ℕ) → forbids o b x w ≡ true → (o.limit < w) × (o.start < min (x + faster_distance w b o.limit w) o.end)
forbids_tells o b x w h =
    let parts = and_parts (nat_lt o.limit w) (nat_lt o.start (min (x + faster_distance w b o.limit w) o.end)) h in
    (ltb-true _ _ parts.0, ltb-true _ _ parts.1)

pub forbids_from : (o : Obstacle) (b x w : ℕ) → o.limit < w → o.start < min (x + faster_distance w b o.limit w) o.end → forbids o b x w ≡ true
forbids_from o b x w fast covered = and_from _ _ (lt-ltb _ _ fast) (lt-ltb _ _ covered)

-- a span of which the points past a place are not in the way allows the speed, or the moves above its limit end by there
pub not_forbidden : (b x u start : ℕ) (o : Obstacle) (s : Span) → o.start ≡ start → o.end ≡ nat_abs s.end → o.limit ≡ nat_abs s.limit → start < nat_abs s.end → forbids o b x u ≡ false
    → nat_abs s.limit < u → x + faster_distance u b (nat_abs s.limit) u ≤ start
not_forbidden b x u start o s begins ends limited past not fast = go (cases_lt o.start (min (x + faster_distance u b o.limit u) o.end))
  where
    go : (o.start < min (x + faster_distance u b o.limit u) o.end) ⊎ (min (x + faster_distance u b o.limit u) o.end ≤ o.start) → x + faster_distance u b (nat_abs s.limit) u ≤ start
    go (inl covered) = absurd (both_ways _ not (forbids_from o b x u (omega arith) covered))
    go (inr clear) = let same : faster_distance u b o.limit u ≡ faster_distance u b (nat_abs s.limit) u = ap (λ l. faster_distance u b l u) limited in omega arith

-- what leads from true to a contradiction is false
not_true : (t : Bool) → (t ≡ true → true ≡ false) → t ≡ false
not_true false h = refl
not_true true h = h refl

-- a span's points past a place are in the way of all moves that cover one of them too fast
pub obstructed : (w b tail x i start : ℕ) (spans : List Span) (o : Obstacle) (s : Span) → s ≡ slice_index_or spans i s → i < length spans
    → o.start ≡ start → o.end ≡ nat_abs s.end → o.limit ≡ nat_abs s.limit
    → (can_brake w b tail (stretches_of spans) None x w ≡ true → keeps_spans w b (stretches_of (drop i spans)) start x w ≡ true)
    → forbids o b x w ≡ true → can_brake w b tail (stretches_of spans) None x w ≡ false
obstructed w b tail x i start spans o s is within begins ends limited kept h =
    not_true _ (λ e.
    let parts = and_parts (keeps_span w b (stretch_of s) start x w) _
    (subst (λ t. keeps_spans w b (stretches_of (t ∷ drop (suc i) spans)) start x w ≡ true) (sym is) (subst (λ ss. keeps_spans w b (stretches_of ss) start x w ≡ true) (from_index spans i s within) (kept e))) in
    let covered = forbids_tells o b x w h in
    let same : faster_distance w b o.limit w ≡ faster_distance w b (nat_abs s.limit) w = ap (λ l. faster_distance w b l w) limited in
    let clear : min (x + faster_distance w b (nat_abs s.limit) w) (nat_abs s.end) ≤ start = span_tells w b (stretch_of s) start x w parts.0 (let fast = covered.0 in omega arith) in
    let before = covered.1 in
    absurd (omega arith))

-- a move that keeps no limits is not permitted by any end of authority, nor is one that stops past it
pub off_limits : (w b tail x : ℕ) (ss : List SpanSeen) (end : Option ℕ) → can_brake w b tail ss None x w ≡ false → can_brake w b tail ss end x w ≡ false
off_limits w b tail x ss end h =
    not_true _ (λ e. sym (and_parts (can_brake w b tail ss None x w) (may_stop end (x + w + braking_distance w b w)) (sym (can_brake_and_stop w b tail ss end x w) ∙ e)).0 ∙ h)

pub stops_late : (w b tail x : ℕ) (ss : List SpanSeen) (end : Option ℕ) → may_stop end (x + w + braking_distance w b w) ≡ false → can_brake w b tail ss end x w ≡ false
stops_late w b tail x ss end h =
    not_true _ (λ e. sym (and_parts (can_brake w b tail ss None x w) (may_stop end (x + w + braking_distance w b w)) (sym (can_brake_and_stop w b tail ss end x w) ∙ e)).1 ∙ h)

-- nor one that is not permitted by full braking
pub not_permitted : (m : MotorSeen) (ss : List SpanSeen) (end : Option ℕ) (x v w : ℕ) → can_brake w m.brake m.tail ss end x w ≡ false → permitted m ss end x v w ≡ false
not_permitted m ss end x v w h = not_true _ (λ e. sym (permitted_brakes m ss end x v w e) ∙ h)

-- all moves are faster than 0
faster_all : (n b u : ℕ) → u ≤ n → 1 ≤ b → faster_distance n b 0 u ≡ u + braking_distance n b u
faster_all n b zero within slows = faster_none n b 0 0 (omega arith)
faster_all zero b (suc u) within slows = absurd (omega arith)
faster_all (suc n) b (suc u) within slows = faster_more n b 0 (suc u) (omega arith) ∙ ap (λ d. suc u + d) (faster_all n b (suc u - b) (omega arith) slows)

-- the track past the end of authority is in the way of all moves that stop there
pub past_authority : (w b tail x : ℕ) (ss : List SpanSeen) (end : Option ℕ) (o : Obstacle) → end ≡ Some o.start → forbids o b x w ≡ true → can_brake w b tail ss end x w ≡ false
past_authority w b tail x ss end o is h =
    stops_late w b tail x ss end (not_true _ (λ stops.
    let stopped = leb-true (x + w + braking_distance w b w) o.start (subst (λ f. may_stop f (x + w + braking_distance w b w) ≡ true) is stops) in
    let covered = (forbids_tells o b x w h).1 in
    let short = faster_within w b o.limit w in
    absurd (omega arith)))

-- and of the one that stops where it ends
pub stops_past : (u b x : ℕ) (o : Obstacle) → 1 ≤ b → 1 ≤ u → o.limit ≡ 0 → o.end ≡ x + u + braking_distance u b u → o.start < o.end → forbids o b x u ≡ true
stops_past u b x o slows moves none ends before =
    let all : faster_distance u b o.limit u ≡ u + braking_distance u b u = ap (λ l. faster_distance u b l u) none ∙ faster_all u b u (le_refl u) slows in
    forbids_from o b x u (omega arith) (omega arith)

-- what is true of a value is true of what an option with it holds
pub some_is : {A : Type 0} (P : A → Type 0) (a : A) → P a → ForSome (Some a) P
some_is P a h x e = subst P (ap (λ o. unwrap_or o a) e) h
