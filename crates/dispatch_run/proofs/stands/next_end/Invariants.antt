use Rattle.std.proofs.Common.{◌⊎◌, ◌≤◌, ◌<◌}
use Rattle.rail_course.specs.declared.dwells.Dwell.{Dwell}
use Rattle.dispatch_run.proofs.Looping.{Gone}
use Rattle.dispatch_run.proofs.stands.next_end.Given as goal

abbrev pub invariant-loop-dwell : goal.invariant-loop-dwell
invariant-loop-dwell l = record {
  ahead : l.stood < l.end;
  within : l.end ≤ l.most;
  least : Gone (λ (w : Dwell). (w.until ≤ l.stood) ⊎ (l.end ≤ w.until)) l.dwells l.dwell-index;
}
