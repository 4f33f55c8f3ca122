-- Free moves on the track of a leg.
use Rattle.std.specs.Prelude.{ℕ, Bool, ◌+◌, ◌-◌, ◌&&◌, ◌||◌, not, nat_abs, nat_le, nat_lt}
use Rattle.rail_motion.specs.Motor.{rates_of}
use Rattle.rail_motion.specs.Track.{stretches_of, end_of}
use Rattle.free_spec.specs.Free.{is_free, free, rise, steps_from_stop}
use Rattle.free_moves.specs.declared.moves.LegTrack.{LegTrack}
use Rattle.rail_spec.specs.Motion.{can_brake}
use Rattle.rail_motion.specs.declared.Span.{Span}

-- whether a move from a place is free
abbrev pub is_free_on : LegTrack → ℕ → ℕ → Bool
is_free_on l = is_free (rates_of l.motor) (stretches_of l.ahead.spans.now) (end_of l.ahead.end) l.rest

-- the greatest free move
abbrev pub free_on : LegTrack → ℕ → ℕ
free_on l = free (rates_of l.motor) (stretches_of l.ahead.spans.now) (end_of l.ahead.end) l.rest

-- the speed from which the least gain of a train that waits is counted: its acceleration and its braking
abbrev pub gain_on : LegTrack → ℕ
gain_on l = nat_abs l.motor.accel + nat_abs l.motor.brake

-- the least ticks from one place to another of a train that waits at the first
abbrev pub waited_on : LegTrack → ℕ → ℕ → ℕ → ℕ
waited_on l most from to = steps_from_stop (free_on l) (gain_on l) from 0 most from to

-- a move by a speed and then full braking keep the limits and the authority of the leg
abbrev pub can_brake_on : LegTrack → ℕ → ℕ → Bool
can_brake_on l place speed = can_brake speed (nat_abs l.motor.brake) (nat_abs l.motor.tail)
    (stretches_of l.ahead.spans.now) (end_of l.ahead.end) place speed

-- the limit of the span allows a move by a speed, where its end lies between the two places
abbrev pub span_allows : Span → ℕ → ℕ → ℕ → ℕ → Bool
span_allows span from accel place speed = let end = nat_abs span.end in
    not (nat_lt from end && nat_le end place) || nat_le (rise accel speed (nat_abs span.limit)) (place - end)
