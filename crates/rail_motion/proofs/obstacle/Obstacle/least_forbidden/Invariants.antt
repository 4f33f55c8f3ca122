use Rattle.std.proofs.Common.{◌≡◌, ◌⊎◌, ◌-◌, ◌<◌, ◌≤◌, false, true}
use Rattle.rail_motion.specs.Obstacles.{forbids}
use Rattle.rail_motion.proofs.obstacle.Obstacle.least_forbidden.Given as goal

-- what is sought lies past what is below, up to the least so far
abbrev pub invariant-loop-below : goal.invariant-loop-below
invariant-loop-below l = record {
  apart : l.below < l.least;
  above : l.low ≤ l.below;
  at_most : l.least ≤ l.high;
  forbidden : forbids l.self l.brake l.place l.least ≡ true;
  lower : (l.below ≡ l.low) ⊎ (forbids l.self l.brake l.place l.below ≡ false);
}

abbrev pub decreases-loop-below : goal.decreases-loop-below
decreases-loop-below l = l.least - l.below
