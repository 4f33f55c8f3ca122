use Rattle.std.proofs.Common.{◌≡◌, ◌⊎◌, ℕ, ◌+◌, ◌≤◌, ◌<◌, Some}
use Rattle.rail_course.specs.declared.journey.Hold.{Hold}
use Rattle.rail_course.specs.Marks.{pass_mark}
use Rattle.dispatch_run.proofs.Looping.{Gone}
use Rattle.dispatch_run.proofs.holds.next_hold_end.Given as goal

abbrev pub invariant-loop-hold : goal.invariant-loop-hold
invariant-loop-hold l = record {
  ahead : l.clock < l.end;
  within : l.end ≤ l.most;
  least : Gone (λ (h : Hold). (a : ℕ) → pass_mark l.passes h.node ≡ Some a → (a + h.event.ticks ≤ l.clock) ⊎ (l.end ≤ a + h.event.ticks)) l.holds l.hold-index;
}
