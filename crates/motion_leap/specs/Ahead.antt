-- Many ticks of a motor on the track ahead.
use Rattle.std.specs.Prelude.{◌≡◌, ◌≤◌, ◌<◌, ◌⊎◌, ℕ, nat_abs}
use Rattle.rail_motion.specs.declared.Motor.{Motor}
use Rattle.rail_motion.specs.declared.ahead.Ahead.{Ahead}
use Rattle.rail_motion.specs.Motor.{rates_of}
use Rattle.rail_motion.specs.Track.{stretches_of, end_of}
use Rattle.motion_leap.specs.declared.leaps.Moved.{Moved}
use Rattle.motion_leap.specs.Steps.{Going, after, IsBound, Keeps, Gains, Slows}
use Rattle.motion_leap.specs.Leaps.{IsLeap}

module _ (m : Motor) (a : Ahead) where
  -- the state after so many ticks
  abbrev pub after_on : ℕ → Going → Going
  after_on = after (rates_of m) (stretches_of a.spans.now) (end_of a.end)

  -- a train at x keeps its speed v up to the border, which lies past x and not past the target: v is its top speed, or
  -- a limit that binds it up to there
  abbrev pub IsBorder : ℕ → ℕ → ℕ → ℕ → Type 0
  IsBorder x v target border = (x < border) × (border ≤ target) × (v ≤ nat_abs m.top)
      × ((v ≡ nat_abs m.top) ⊎ IsBound (nat_abs m.tail) (stretches_of a.spans.now) x border v)

  -- for so many ticks the train keeps its speed
  abbrev pub KeepsOn : ℕ → ℕ → ℕ → ℕ → ℕ → Type 0
  KeepsOn = Keeps (rates_of m) (stretches_of a.spans.now) (end_of a.end)

  -- for so many ticks it gains speed at the full rate
  abbrev pub GainsOn : ℕ → ℕ → ℕ → ℕ → ℕ → Type 0
  GainsOn = Gains (rates_of m) (stretches_of a.spans.now) (end_of a.end)

  -- for so many ticks it loses speed at the full rate
  abbrev pub SlowsOn : ℕ → ℕ → ℕ → ℕ → ℕ → Type 0
  SlowsOn = Slows (rates_of m) (stretches_of a.spans.now) (end_of a.end)

  -- at least one tick, and at most so many, each of which begins before the target
  abbrev pub IsLeapOn : ℕ → ℕ → ℕ → ℕ → Moved → Type 0
  IsLeapOn = IsLeap (rates_of m) (stretches_of a.spans.now) (end_of a.end)
