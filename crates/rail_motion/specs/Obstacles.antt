-- What is in the way of a move and then full braking.
use Rattle.std.specs.Prelude.{◌≡◌, ℕ, ◌+◌, ◌≤◌, Bool, true, false, ◌&&◌, nat_abs, nat_lt, min, List, Option}
use Rattle.rail_motion.specs.declared.Motor.{Motor}
use Rattle.rail_motion.specs.declared.Span.{Span}
use Rattle.rail_motion.specs.declared.ahead.Ahead.{Ahead}
use Rattle.rail_motion.specs.declared.obstacle.Obstacle.{Obstacle}
use Rattle.rail_motion.specs.Braking.{faster_distance}
use Rattle.rail_motion.specs.Track.{stretches_of, end_of}
use Rattle.rail_spec.specs.Motion.{can_brake}

-- a point of the obstacle is covered by the moves that are faster than its limit, of those of full braking
abbrev pub forbids : Obstacle → ℕ → ℕ → ℕ → Bool
forbids o b x u = nat_lt o.limit u && nat_lt o.start (min (x + faster_distance u b o.limit u) o.end)

-- the obstacle is in the way of a move by u, and no move in whose way it is keeps the limits and stops within the authority
pub record IsObstacle (spans : List Span) (end : Option ℕ) (b tail x u : ℕ) (o : Obstacle) : Type 0 where
  pub forbidden : 1 ≤ u → forbids o b x u ≡ true
  pub obstructs : (w : ℕ) → forbids o b x w ≡ true → can_brake w b tail (stretches_of spans) end x w ≡ false

-- the obstacle is so in the way of a motor on the track ahead
abbrev pub IsObstacleOn : Motor → Ahead → ℕ → ℕ → Obstacle → Type 0
IsObstacleOn m a = IsObstacle a.spans.now (end_of a.end) (nat_abs m.brake) (nat_abs m.tail)
