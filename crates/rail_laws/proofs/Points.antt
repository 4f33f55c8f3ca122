-- What is permitted, point by point and move by move.
use Rattle.std.proofs.Common.{◌≡◌, ℕ, zero, suc, ◌+◌, ◌-◌, ◌*◌, ◌≤◌, Bool, true, false, if◌then◌else◌, List, Option, refl, sym, subst, arith, le-leb, suc-mul}
use Rattle.rail_base.specs.Numbering.{greatest}
use Rattle.rail_base.proofs.Members.{and_left, and_right, and_both}
use Rattle.rail_spec.specs.Motion.{MotorSeen, SpanSeen, KeepsLimits, keeps_limits, may_stop, can_brake, reach, permitted, next_speed, braking_head, IsPermitted, IsGreatestPermitted}
use Rattle.rail_laws.proofs.MotionLaws.{keeps_limits_tells, keeps_limits_from, may_stop_before, permitted_reach, permitted_brakes, greatest_passes}
use Rattle.rail_laws.proofs.Moving.{greatest_above}

-- ---- full braking, move by move

-- who stands stays
head_stays : (b x n : ℕ) → braking_head b x 0 n ≡ x
head_stays b x zero = refl
head_stays b x (suc n) = let before = head_stays b x n in omega arith

-- a speed that is less by b after a move is that after one move more
slower : (u b n : ℕ) → u - b - n * b ≡ u - suc n * b
slower u b n = let more = suc-mul n b in omega arith

-- and so are the heads
head_after : (b x u n : ℕ) → braking_head b (x + u) (u - b) n ≡ braking_head b x u (suc n)
head_after b x u zero = omega arith
head_after b x u (suc n) = let before = head_after b x u n in let less = slower u b n in omega arith

-- each of the moves keeps the limits, and ends where it may
record Brakes (top b tail : ℕ) (ss : List SpanSeen) (end : Option ℕ) (x u : ℕ) : Type 0 where
  pub limits : (n : ℕ) → KeepsLimits top ss (braking_head b x u n - tail) (braking_head b x u (suc n)) (u - n * b)
  pub stops : (n : ℕ) → may_stop end (braking_head b x u n) ≡ true

keeps_along : (top tail : ℕ) (ss : List SpanSeen) (x y u x' y' u' : ℕ) → x ≡ x' → y ≡ y' → u ≡ u' → KeepsLimits top ss (x - tail) y u → KeepsLimits top ss (x' - tail) y' u'
keeps_along top tail ss x y u x' y' u' a b c h =
    subst (λ z. KeepsLimits top ss (z - tail) y' u') a (subst (λ z. KeepsLimits top ss (x - tail) z u') b (subst (λ z. KeepsLimits top ss (x - tail) y z) c h))

first_head : (b x u : ℕ) → braking_head b x u 1 ≡ x + u
first_head b x u = omega arith

first_speed : (b u : ℕ) → u - 0 * b ≡ u
first_speed b u = omega arith

-- a first move, and those after it
brakes_first : (top b tail : ℕ) (ss : List SpanSeen) (end : Option ℕ) (x u : ℕ) → KeepsLimits top ss (x - tail) (x + u) u → Brakes top b tail ss end (x + u) (u - b) → Brakes top b tail ss end x u
brakes_first top b tail ss end x u here later = record { limits = limits; stops = stops }
  where
    limits : (n : ℕ) → KeepsLimits top ss (braking_head b x u n - tail) (braking_head b x u (suc n)) (u - n * b)
    limits zero = keeps_along top tail ss x (x + u) u _ _ _ refl (sym (first_head b x u)) (sym (first_speed b u)) here
    limits (suc n) = keeps_along top tail ss (braking_head b (x + u) (u - b) n) _ _ (braking_head b x u (suc n)) _ _ (head_after b x u n) (head_after b x u (suc n)) (slower u b n) (later.limits n)

    stops : (n : ℕ) → may_stop end (braking_head b x u n) ≡ true
    stops zero = may_stop_before end x (x + u) (omega arith) (later.stops 0)
    stops (suc n) = subst (λ y. may_stop end y ≡ true) (head_after b x u n) (later.stops n)

brakes_tells : (m b tail top : ℕ) (ss : List SpanSeen) (end : Option ℕ) (x u : ℕ) → u ≤ top → can_brake m b tail ss end x u ≡ true → Brakes top b tail ss end x u
brakes_tells m b tail top ss end x zero fast h = record {
  limits = λ n p l k. omega arith;
  stops = λ n. subst (λ y. may_stop end y ≡ true) (sym (head_stays b x n)) h;
}
brakes_tells zero b tail top ss end x (suc u) fast h = cc
brakes_tells (suc m) b tail top ss end x (suc u) fast h =
    brakes_first top b tail ss end x (suc u)
    (keeps_limits_tells top ss (x - tail) (x + suc u) (suc u) fast (and_left _ (can_brake m b tail ss end (x + suc u) (suc u - b)) h))
    (brakes_tells m b tail top ss end (x + suc u) (suc u - b) (omega arith) (and_right (keeps_limits ss (x - tail) (x + suc u) (suc u)) _ h))

brakes_from : (m b tail top : ℕ) (ss : List SpanSeen) (end : Option ℕ) (x u : ℕ) → 1 ≤ b → u ≤ m → Brakes top b tail ss end x u → can_brake m b tail ss end x u ≡ true
brakes_from m b tail top ss end x zero slows moves h = h.stops 0
brakes_from zero b tail top ss end x (suc u) slows moves h = absurd (omega arith)
brakes_from (suc m) b tail top ss end x (suc u) slows moves h = and_both _ _ here (brakes_from m b tail top ss end (x + suc u) (suc u - b) slows (omega arith) later)
  where
    here : keeps_limits ss (x - tail) (x + suc u) (suc u) ≡ true
    here = keeps_limits_from top ss (x - tail) (x + suc u) (suc u) (keeps_along top tail ss x _ _ x _ _ refl (first_head b x (suc u)) (first_speed b (suc u)) (h.limits 0))

    later : Brakes top b tail ss end (x + suc u) (suc u - b)
    later = record {
      limits = λ n. keeps_along top tail ss (braking_head b x (suc u) (suc n)) _ _ (braking_head b (x + suc u) (suc u - b) n) _ _ (sym (head_after b x (suc u) n)) (sym (head_after b x (suc u) (suc n))) (sym (slower (suc u) b n)) (h.limits (suc n));
      stops = λ n. subst (λ y. may_stop end y ≡ true) (sym (head_after b x (suc u) n)) (h.stops (suc n));
    }

-- ---- what is permitted

pub permitted_tells : (m : MotorSeen) (ss : List SpanSeen) (end : Option ℕ) (x v u : ℕ) → permitted m ss end x v u ≡ true → IsPermitted m ss end x v u
permitted_tells m ss end x v u h =
    let within = permitted_reach m ss end x v u h in
    let brakes = brakes_tells u m.brake m.tail m.top ss end x u (omega arith) (permitted_brakes m ss end x v u h) in
    record { gains = omega arith; fast = omega arith; limits = brakes.limits; stops = brakes.stops }

pub permitted_from : (m : MotorSeen) (ss : List SpanSeen) (end : Option ℕ) (x v u : ℕ) → 1 ≤ m.brake → IsPermitted m ss end x v u → permitted m ss end x v u ≡ true
permitted_from m ss end x v u slows h =
    and_both _ _ (le-leb u (reach m v) (let gains = h.gains in let fast = h.fast in omega arith))
    (brakes_from u m.brake m.tail m.top ss end x u slows (omega arith) (record { limits = h.limits; stops = h.stops }))

-- ---- the greatest of it

-- where no number passes the greatest is 0
greatest_none : (test : ℕ → Bool) (n : ℕ) → ((r : ℕ) → test r ≡ true → ⊥) → greatest test n ≡ 0
greatest_none test zero none = refl
greatest_none test (suc n) none = go (test (suc n)) refl (greatest_none test n none)
  where
    go : (b : Bool) → test (suc n) ≡ b → greatest test n ≡ 0 → (if b then suc n else greatest test n) ≡ 0
    go true e below = absurd (none (suc n) e)
    go false e below = below

module _ (m : MotorSeen) (ss : List SpanSeen) (end : Option ℕ) (x v : ℕ) (slows : 1 ≤ m.brake) where
  above : (w : ℕ) → IsPermitted m ss end x v w → w ≤ next_speed m ss end x v
  above w h =
      let k = permitted_from m ss end x v w slows h in
      greatest_above (permitted m ss end x v) (reach m v) w (permitted_reach m ss end x v w k) k

  pub next_is_greatest : (w : ℕ) → IsPermitted m ss end x v w → IsGreatestPermitted m ss end x v (next_speed m ss end x v)
  next_is_greatest w h =
      let k = permitted_from m ss end x v w slows h in
      record {
        permitted = permitted_tells m ss end x v _ (greatest_passes (permitted m ss end x v) (reach m v) w (permitted_reach m ss end x v w k) k);
        no_greater = above;
      }

  pub greatest_is_next : (u : ℕ) → IsGreatestPermitted m ss end x v u → next_speed m ss end x v ≡ u
  greatest_is_next u h =
      let most = next_is_greatest u h.permitted in
      let low = above u h.permitted in
      let high = h.no_greater _ most.permitted in
      omega arith

  pub next_is_none : ((w : ℕ) → IsPermitted m ss end x v w → ⊥) → next_speed m ss end x v ≡ 0
  next_is_none none = greatest_none (permitted m ss end x v) (reach m v) (λ r h. none r (permitted_tells m ss end x v r h))
