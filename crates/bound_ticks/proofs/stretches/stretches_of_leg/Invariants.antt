use Rattle.std.proofs.Common.{◌≡◌, ◌+◌, ◌≤◌, drop}
use Rattle.bound_ticks.specs.Looks.{cap}
use Rattle.bound_ticks.proofs.Adding.{stretches_of_walks}
use Rattle.bound_ticks.proofs.stretches.stretches_of_leg.Given as goal

-- those counted, and those of the walks left
abbrev pub invariant-loop-walk : goal.invariant-loop-walk
invariant-loop-walk l = record {
  few : l.count ≤ 33554433;
  left : cap (l.count + stretches_of_walks l.interlocking.design.station l.interlocking.routes (drop l.walk-index l.walk-items)) ≡ cap (stretches_of_walks l.interlocking.design.station l.interlocking.routes l.walk-items);
}
