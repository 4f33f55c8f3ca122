use Rattle.std.proofs.Common.{◌≡◌, ◌+◌, ◌-◌, ◌≤◌, ◌<◌, true, false}
use Rattle.rail_motion.specs.Motor.{rates_of}
use Rattle.rail_motion.specs.Track.{stretches_of, end_of}
use Rattle.rail_spec.specs.Motion.{permitted, reach}
use Rattle.rail_motion.proofs.speeds.greatest_permitted.Given as goal

-- what is sought lies from low up to high
abbrev pub invariant-loop-low : goal.invariant-loop-low
invariant-loop-low l = record {
  apart : l.low < l.high;
  within : l.high ≤ reach (rates_of l.motor) l.speed + 1;
  low_is : permitted (rates_of l.motor) (stretches_of l.ahead.spans.now) (end_of l.ahead.end) l.place l.speed l.low ≡ true;
  high_is : permitted (rates_of l.motor) (stretches_of l.ahead.spans.now) (end_of l.ahead.end) l.place l.speed l.high ≡ false;
}

abbrev pub decreases-loop-low : goal.decreases-loop-low
decreases-loop-low l = l.high - l.low
