use Rattle.std.proofs.Common.{◌≡◌, ◌+◌, ◌≤◌, drop}
use Rattle.rail_course.specs.Tracks.{routes_at}
use Rattle.bound_spec.specs.Validity.{stretches_in}
use Rattle.bound_ticks.specs.Looks.{cap}
use Rattle.bound_ticks.proofs.stretches.stretches_in.Given as goal

-- those counted, and those left
abbrev pub invariant-loop-number : goal.invariant-loop-number
invariant-loop-number l = record {
  few : l.count ≤ 33554433;
  left : cap (l.count + stretches_in (routes_at l.routes (drop l.number-index l.walk))) ≡ cap (stretches_in (routes_at l.routes l.walk));
}
