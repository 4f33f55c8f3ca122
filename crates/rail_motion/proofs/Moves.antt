-- What a permitted move does: it keeps the limits, and is at least 1 where authority is left.
use Rattle.std.proofs.Common.{◌≡◌, ℕ, zero, suc, ◌+◌, ◌-◌, ◌≤◌, ◌<◌, nat_abs, ℤ, pos, ◌<ℤ◌, ◌≤ℤ◌, Bool, true, false, if◌then◌else◌, List, [], ◌∷◌, nat_le, Option, None, Some, refl, arith, le-leb}
use Rattle.std.specs.Option.{ForSome}
use Rattle.std.proofs.lemmas.Int.{ints}
use Rattle.std.proofs.lemmas.Bool.{and_from, both_ways}
use Rattle.rail_spec.specs.Motion.{MotorSeen, SpanSeen, limit_at, KeepsLimits, may_stop, reach, permitted}
use Rattle.rail_laws.proofs.MotionLaws.{keeps_limits_from, can_brake_keeps, permitted_reach, permitted_brakes}
use Rattle.rail_motion.specs.declared.Span.{Span}
use Rattle.rail_motion.specs.Track.{stretches_of, end_of}

-- a permitted move keeps the limits
pub permitted_keeps : (m : MotorSeen) (ss : List SpanSeen) (end : Option ℕ) (x v u : ℕ) → permitted m ss end x v u ≡ true → KeepsLimits m.top ss (x - m.tail) (x + u) u
permitted_keeps m ss end x v u h =
    let reached = permitted_reach m ss end x v u h in
    can_brake_keeps u m.brake m.tail m.top ss end x u (omega arith) (permitted_brakes m ss end x v u h)

-- each limit is at least 1
limit_at_least : (top : ℕ) (spans : List Span) (p : ℕ) → 1 ≤ top → 1 ≤ limit_at top (stretches_of spans) p
limit_at_least top [] p fast = fast
limit_at_least top (s ∷ rest) p fast = go (nat_le p (nat_abs s.end)) (limit_at_least top rest p fast)
  where
    go : (t : Bool) → 1 ≤ limit_at top (stretches_of rest) p → 1 ≤ (if t then nat_abs s.limit else limit_at top (stretches_of rest) p)
    go true later = let range = s.limit_range in omega (arith, ints)
    go false later = later

-- where authority is left the speed 1 is permitted
pub permitted_one : (m : MotorSeen) (spans : List Span) (end : Option ℕ) (x v : ℕ) → 1 ≤ m.accel → 1 ≤ m.brake → 1 ≤ m.top → ForSome end (λ e. x < e) → permitted m (stretches_of spans) end x v 1 ≡ true
permitted_one m spans end x v gains slows fast left =
    and_from _ _ (le-leb 1 (reach m v) (omega arith))
    (and_from _ _ (keeps_limits_from m.top (stretches_of spans) (x - m.tail) (x + 1) 1 (λ p past near. limit_at_least m.top spans p fast))
    (let none : 1 - m.brake ≡ 0 = omega arith in rw none (stops end left)))
  where
    stops : (end : Option ℕ) → ForSome end (λ e. x < e) → may_stop end (x + 1) ≡ true
    stops None left = refl
    stops (Some e) left = let before : x < e = left e refl in le-leb (x + 1) e (omega arith)

-- so the greatest is at least 1
pub moves_on : (m : MotorSeen) (spans : List Span) (end : Option ℕ) (x v low high : ℕ) → 1 ≤ m.accel → 1 ≤ m.brake → 1 ≤ m.top → low < high → high ≤ low + 1
    → permitted m (stretches_of spans) end x v high ≡ false → ForSome end (λ e. x < e) → 1 ≤ low
moves_on m spans end x v zero high gains slows fast above next not_permitted left =
    let one : high ≡ 1 = omega arith in
    absurd (both_ways _ (rw one at not_permitted) (permitted_one m spans end x v gains slows fast left))
moves_on m spans end x v (suc low) high gains slows fast above next not_permitted left = omega arith

-- authority that is left of a signed place is left of its natural number
pub left_over : (x : ℤ) (end : Option ℤ) → pos 0 ≤ℤ x → ForSome end (λ e. x <ℤ e) → ForSome (end_of end) (λ e. nat_abs x < e)
left_over x None begun left = λ e is. cc
left_over x (Some f) begun left = λ e is. go e (option_inj is) (left f refl)
  where
    option_inj : {a b : ℕ} → Some a ≡ Some b → a ≡ b
    option_inj h = cc

    go : (e : ℕ) → nat_abs f ≡ e → x <ℤ f → nat_abs x < e
    go e same before = omega (arith, ints)
