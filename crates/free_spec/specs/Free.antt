-- How far a head can come in a tick on a leg: routes in a row, of which nothing is known before them. Places are in mm from the start of the leg.
use Rattle.std.specs.Prelude.{ℕ, zero, suc, ◌+◌, ◌-◌, ◌*◌, ◌/◌, min, max, Bool, true, not, ◌&&◌, ◌||◌, if◌then◌else◌, List, [], ◌∷◌, nat_le, nat_lt, Option, ◌≡◌, ◌≤◌}
use Rattle.rail_base.specs.Numbering.{greatest}
use Rattle.rail_spec.specs.Motion.{MotorSeen, SpanSeen, can_brake}

-- the sum of those of u - a, u - 2a and so on that are above l, so many of them at the most
abbrev pub climb : ℕ → ℕ → ℕ → ℕ → ℕ
climb zero a u l = 0
climb (suc n) a u l = let further = climb n a (u - a) l in if nat_lt l (u - a) then (u - a) + further else 0

-- how far a train has come at speeds above l, before a move by u, if it gains at most a in a tick
abbrev pub rise : ℕ → ℕ → ℕ → ℕ
rise a u l = climb u a u l

-- for each stretch that the tail has left at x the distance since then is enough to gain u, from its limit at the most. The first begins there.
abbrev pub behind : ℕ → ℕ → ℕ → List SpanSeen → ℕ → ℕ → Bool
behind a tail from [] x u = true
behind a tail from (s ∷ rest) x u =
    let left = s.end + tail in
    (not (nat_lt from s.end && nat_le left x) || nat_le (rise a u s.limit) (x - left))
    && behind a tail (max from s.end) rest x u

module _ (m : MotorSeen) (ss : List SpanSeen) (end : Option ℕ) (rest : Bool) where
  -- a move by u and then full braking keeps the limits ahead and stops where it may; the limits behind allow u; and so does the start, where the train starts there from rest
  abbrev pub is_free : ℕ → ℕ → Bool
  is_free x u = can_brake u m.brake m.tail ss end x u && behind m.accel m.tail 0 ss x u && (not rest || nat_le (rise m.accel u 0) x)

  -- the greatest such move
  abbrev pub free : ℕ → ℕ
  free x = greatest (is_free x) m.top

-- the number of steps from x until y is reached, or h + 1 where h steps don't reach it
abbrev pub steps : (ℕ → ℕ) → ℕ → ℕ → ℕ → ℕ
steps move zero x y = if nat_le y x then 0 else 1
steps move (suc h) x y = let later = steps move h (x + move x) y in if nat_le y x then 0 else suc later

-- the same from a place where who stands can go at the most c * j * (j + 1) / 2 in j ticks, of which so many are over
abbrev pub steps_from_stop : (ℕ → ℕ) → ℕ → ℕ → ℕ → ℕ → ℕ → ℕ → ℕ
steps_from_stop move c x0 j zero x y = if nat_le y x then 0 else 1
steps_from_stop move c x0 j (suc h) x y =
    let next = min (x + move x) (x0 + c * (suc j * (suc j + 1)) / 2) in
    let later = steps_from_stop move c x0 (suc j) h next y in
    if nat_le y x then 0 else suc later

-- a speed below one that is free is free, where the motor reaches that
abbrev pub LowerIsFree : MotorSeen → List SpanSeen → Option ℕ → Type 0
LowerIsFree m ss end = (rest : Bool) (x u w : ℕ) → u ≤ m.top → w ≤ u
    → is_free m ss end rest x u ≡ true → is_free m ss end rest x w ≡ true
