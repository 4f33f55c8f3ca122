use Rattle.std.proofs.Common.{◌≡◌, ◌+◌, ◌<◌, ◌≤◌, ℕ, length, slice_index_or}
use Rattle.rail_motion.specs.declared.Span.{Span}
use Rattle.rail_motion.specs.Track.{stretches_of, IsSlowestOfBlock, NoneSlower}
use Rattle.rail_motion.proofs.least.mark_least.Given as goal

-- those that are done are marked, and the slowest is that for the next one
abbrev pub invariant-loop-left : goal.invariant-loop-left
invariant-loop-left l = record {
  within : l.left ≤ length l.spans;
  next : (i : ℕ) → l.left ≡ i + 1 → IsSlowestOfBlock l.spans i l.slowest;
  track : stretches_of l.spans ≡ stretches_of l.fn.spans;
  none_slower : NoneSlower l.fn.spans → NoneSlower l.spans;
  marked : (i : ℕ) (d : Span) → l.left ≤ i → i < length l.spans → IsSlowestOfBlock l.spans i (i + (slice_index_or l.spans i d).least_in);
}

abbrev pub decreases-loop-left : goal.decreases-loop-left
decreases-loop-left l = l.left
