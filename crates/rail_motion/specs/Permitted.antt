-- What a motor may do on the track ahead.
use Rattle.std.specs.Prelude.{◌≡◌, ℕ, ◌-◌, Bool, true, nat_abs}
use Rattle.rail_motion.specs.declared.Motor.{Motor}
use Rattle.rail_motion.specs.declared.ahead.Ahead.{Ahead}
use Rattle.rail_motion.specs.Motor.{rates_of}
use Rattle.rail_motion.specs.Track.{stretches_of, end_of}
use Rattle.rail_spec.specs.Motion as motion

module _ (m : Motor) (a : Ahead) where
  -- a speed is permitted at a place and a speed
  abbrev pub permitted_on : ℕ → ℕ → ℕ → Bool
  permitted_on = motion.permitted (rates_of m) (stretches_of a.spans.now) (end_of a.end)

  -- a move by a speed from a place, and then full braking, keeps the limits and stops where it may
  abbrev pub brakes_on : ℕ → ℕ → Bool
  brakes_on place speed = motion.can_brake speed (nat_abs m.brake) (nat_abs m.tail) (stretches_of a.spans.now) (end_of a.end) place speed

  -- full braking is permitted at a place and a speed
  abbrev pub MayBrake : ℕ → ℕ → Type 0
  MayBrake x v = permitted_on x v (v - nat_abs m.brake) ≡ true

  -- the greatest speed that is permitted at a place and a speed
  abbrev pub next_speed_on : ℕ → ℕ → ℕ
  next_speed_on = motion.next_speed (rates_of m) (stretches_of a.spans.now) (end_of a.end)

  -- a speed is permitted at a place and a speed, point by point
  abbrev pub IsPermittedOn : ℕ → ℕ → ℕ → Type 0
  IsPermittedOn = motion.IsPermitted (rates_of m) (stretches_of a.spans.now) (end_of a.end)

  -- so it is, and no greater one
  abbrev pub IsGreatestOn : ℕ → ℕ → ℕ → Type 0
  IsGreatestOn = motion.IsGreatestPermitted (rates_of m) (stretches_of a.spans.now) (end_of a.end)

  -- each point after the first place up to the second, and under the tail at the first, has a limit of at least this speed
  abbrev pub KeepsLimitsOn : ℕ → ℕ → ℕ → Type 0
  KeepsLimitsOn x = motion.KeepsLimits (nat_abs m.top) (stretches_of a.spans.now) (x - nat_abs m.tail)
