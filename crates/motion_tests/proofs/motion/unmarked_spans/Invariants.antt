use Rattle.std.proofs.Common.{◌*◌, pos, ◌≤ℤ◌, All}
use Rattle.rail_motion.specs.Track.{IsRising}
use Rattle.motion_tests.proofs.motion.unmarked_spans.Given as goal

abbrev pub invariant-loop-i : goal.invariant-loop-i
invariant-loop-i l = record {
  rising : IsRising l.spans.items;
  behind : All (λ s. s.end ≤ℤ pos (l.i * 500000)) l.spans.items;
}
