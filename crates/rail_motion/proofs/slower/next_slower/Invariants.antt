use Rattle.std.proofs.Common.{length, ◌-◌, ◌<◌, ◌≤◌, ◌≤ℤ◌, ℕ, slice_index_or}
use Rattle.rail_motion.specs.declared.Span.{Span}
use Rattle.rail_motion.proofs.slower.next_slower.Given as goal

-- none so far is lower
abbrev pub invariant-loop-next : goal.invariant-loop-next
invariant-loop-next l = record {
  after : l.index < l.next;
  within : l.next ≤ length l.spans;
  none : (j : ℕ) (d : Span) → l.index < j → j < l.next → (slice_index_or l.spans l.index d).limit ≤ℤ (slice_index_or l.spans j d).limit;
}

abbrev pub decreases-loop-next : goal.decreases-loop-next
decreases-loop-next l = length l.spans - l.next
