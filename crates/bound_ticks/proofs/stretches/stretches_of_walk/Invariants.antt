use Rattle.std.proofs.Common.{◌≡◌, ◌+◌, ◌≤◌, drop}
use Rattle.rail_course.specs.Tracks.{routes_at}
use Rattle.bound_spec.specs.Validity.{stretches_of_walk}
use Rattle.bound_ticks.specs.Looks.{cap}
use Rattle.bound_ticks.proofs.Adding.{stretches_after}
use Rattle.bound_ticks.proofs.stretches.stretches_of_walk.Given as goal

-- those counted, and those with the routes left
abbrev pub invariant-loop-next : goal.invariant-loop-next
invariant-loop-next l = record {
  few : l.count ≤ 33554433;
  left : cap (l.count + stretches_after (routes_at l.interlocking.routes l.walk) (drop l.next-index l.routes)) ≡ cap (stretches_of_walk l.interlocking.design.station l.interlocking.routes (routes_at l.interlocking.routes l.walk));
}
