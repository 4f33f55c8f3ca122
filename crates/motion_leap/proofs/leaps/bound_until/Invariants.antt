use Rattle.std.proofs.Common.{◌≡◌, ℕ, ◌<◌, ◌≤◌, ◌-◌, drop}
use Rattle.std.specs.Option.{ForSome}
use Rattle.rail_motion.specs.Track.{stretches_of}
use Rattle.rail_spec.specs.Motion.{limit_at}
use Rattle.motion_leap.specs.Steps.{IsBound}
use Rattle.motion_leap.proofs.leaps.bound_until.Given as goal

-- the stretches so far end by the place, they and those before the tail say nothing of points past them, and what is found binds
abbrev pub invariant-loop-span : goal.invariant-loop-span
invariant-loop-span l = record {
  by_tail : l.x - l.tail ≤ l.start;
  by_head : l.start ≤ l.x;
  later : (top p : ℕ) → l.start < p → limit_at top (stretches_of l.ahead.spans.now) p ≡ limit_at top (stretches_of (drop l.span-index l.spans)) p;
  bound : ForSome l.border (λ border. (l.x < border) × IsBound l.tail (stretches_of l.ahead.spans.now) l.x border l.limit);
}
