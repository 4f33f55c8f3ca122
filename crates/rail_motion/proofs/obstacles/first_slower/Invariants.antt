use Rattle.std.proofs.Common.{◌≡◌, ◌-◌, ◌≤◌, ◌<◌, ◌^◌, ℕ, length, drop, slice_index_or, nat_abs, None, true}
use Rattle.rail_motion.specs.declared.Span.{Span}
use Rattle.rail_motion.specs.Track.{stretches_of}
use Rattle.rail_spec.specs.Motion.{can_brake}
use Rattle.rail_motion.proofs.Points.{keeps_spans}
use Rattle.rail_motion.proofs.obstacles.first_slower.Given as goal

-- the answer is that for what is left, which ends past the start, and what all spans keep is kept by these
abbrev pub invariant-loop-next : goal.invariant-loop-next
invariant-loop-next l = record {
  within : l.next ≤ length l.spans;
  near : l.start < 2 ^ 47;
  ahead : (j : ℕ) (d : Span) → l.next ≤ j → j < length l.spans → l.start < nat_abs (slice_index_or l.spans j d).end;
  left : can_brake l.speed l.brake l.tail (stretches_of l.spans) None l.place l.speed ≡ keeps_spans l.speed l.brake (stretches_of (drop l.next l.spans)) l.start l.place l.speed;
  kept : (w : ℕ) → can_brake w l.brake l.tail (stretches_of l.spans) None l.place w ≡ true → keeps_spans w l.brake (stretches_of (drop l.next l.spans)) l.start l.place w ≡ true;
}

abbrev pub decreases-loop-next : goal.decreases-loop-next
decreases-loop-next l = length l.spans - l.next
