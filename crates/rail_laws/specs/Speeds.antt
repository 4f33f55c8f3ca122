-- What the laws say of limits and speeds on all tracks.
use Rattle.std.specs.Prelude.{◌≡◌, ◌↔◌, ℕ, ◌+◌, ◌-◌, ◌≤◌, ◌<◌, true, List, Option}
use Rattle.rail_base.specs.Members.{In}
use Rattle.rail_spec.specs.Motion.{MotorSeen, SpanSeen, KeepsLimits, keeps_limits, permitted, next_speed, IsPermitted}
use Rattle.rail_spec.specs.Motion.{IsGreatestPermitted}
use Rattle.rail_laws.specs.Progress.{MayMove}
use Rattle.rail_laws.specs.Tails.{KeepsUnderTrain}

-- it is so of every motor that can brake, with every track ahead and every end of authority
abbrev pub OnEachTrack : (MotorSeen → List SpanSeen → Option ℕ → Type 0) → Type 0
OnEachTrack Is = (m : MotorSeen) (ss : List SpanSeen) (end : Option ℕ) → 1 ≤ m.brake → Is m ss end

-- a move from x to y keeps the limits exactly where each point of it has a limit of at least its speed
abbrev pub LimitsAreThoseOfPoints : List SpanSeen → Type 0
LimitsAreThoseOfPoints ss = (top x y u : ℕ) → u ≤ top → (keeps_limits ss x y u ≡ true) ↔ KeepsLimits top ss x y u

-- a move from x to y keeps them from so far behind its head exactly where each point of it has, from itself back over
-- that length, no limit below its speed
abbrev pub LimitsBindUnderTrains : List SpanSeen → Type 0
LimitsBindUnderTrains ss = (top tail x y u : ℕ) → x < y
    → KeepsLimits top ss (x - tail) y u ↔ KeepsUnderTrain top ss tail x y u

module _ (m : MotorSeen) (ss : List SpanSeen) (end : Option ℕ) where
  -- at the place x and the speed v the test permits u exactly where it is permitted point by point
  abbrev pub PermittedByPoints : Type 0
  PermittedByPoints = (x v u : ℕ) → (permitted m ss end x v u ≡ true) ↔ IsPermitted m ss end x v u

  -- where any speed is permitted the next one is the greatest of those
  abbrev pub NextIsGreatest : Type 0
  NextIsGreatest = (x v w u : ℕ) → IsPermitted m ss end x v w
      → (next_speed m ss end x v ≡ u) ↔ IsGreatestPermitted m ss end x v u

  -- where none is, it is 0
  abbrev pub NextOfNoneIsZero : Type 0
  NextOfNoneIsZero = (x v : ℕ) → ((w : ℕ) → IsPermitted m ss end x v w → ⊥) → next_speed m ss end x v ≡ 0

  -- a speed below a permitted one is permitted
  abbrev pub PermittedGoesDown : Type 0
  PermittedGoesDown = (x v u w : ℕ) → u ≤ w → permitted m ss end x v w ≡ true → permitted m ss end x v u ≡ true

  -- after a permitted move full braking is permitted
  abbrev pub BrakingStaysPermitted : Type 0
  BrakingStaysPermitted = (x v u : ℕ)
      → permitted m ss end x v u ≡ true → permitted m ss end (x + u) u (u - m.brake) ≡ true

  -- where the motor can gain speed, each stretch has a limit and the end of authority is ahead, at least 1 is permitted
  abbrev pub MovesWhereItMay : Type 0
  MovesWhereItMay = (x v : ℕ) → 1 ≤ m.accel → 1 ≤ m.top → ((s : SpanSeen) → In s ss → 1 ≤ s.limit)
      → MayMove end x → permitted m ss end x v 1 ≡ true
