use Rattle.std.proofs.Common.{◌≡◌, ◌+◌, ◌-◌, ◌≤◌, ◌<◌, true, false, nat_abs}
use Rattle.rail_motion.specs.Motor.{rates_of}
use Rattle.rail_motion.specs.Track.{stretches_of, end_of}
use Rattle.free_spec.specs.Free.{is_free}
use Rattle.free_moves.proofs.moves.LegTrack.free.Given as goal

-- what is sought lies from low up to high
abbrev pub invariant-loop-low : goal.invariant-loop-low
invariant-loop-low l = record {
  apart : l.low < l.high;
  within : l.high ≤ nat_abs l.self.motor.top + 1;
  low_is : 1 ≤ l.low → is_free (rates_of l.self.motor) (stretches_of l.self.ahead.spans.now) (end_of l.self.ahead.end) l.self.rest l.place l.low ≡ true;
  high_is : l.high ≤ nat_abs l.self.motor.top → is_free (rates_of l.self.motor) (stretches_of l.self.ahead.spans.now) (end_of l.self.ahead.end) l.self.rest l.place l.high ≡ false;
}

abbrev pub decreases-loop-low : goal.decreases-loop-low
decreases-loop-low l = l.high - l.low
