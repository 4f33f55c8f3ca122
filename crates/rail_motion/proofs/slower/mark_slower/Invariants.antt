use Rattle.std.proofs.Common.{◌≡◌, ◌≤◌, length}
use Rattle.rail_motion.specs.Track.{stretches_of, AreMarkedSlower}
use Rattle.rail_motion.proofs.slower.mark_slower.Given as goal

-- those that are done are marked
abbrev pub invariant-loop-left : goal.invariant-loop-left
invariant-loop-left l = record {
  within : l.left ≤ length l.spans;
  track : stretches_of l.spans ≡ stretches_of l.fn.spans;
  marked : AreMarkedSlower l.spans l.left;
}

abbrev pub decreases-loop-left : goal.decreases-loop-left
decreases-loop-left l = l.left
