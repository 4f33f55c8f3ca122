use Rattle.std.proofs.Common.{◌≡◌, ◌*◌, ◌≤◌, ◌^◌, ◌++◌, drop, map}
use Rattle.rail_base.specs.Stations.{whole_ticks}
use Rattle.rail_course.specs.Dwells.{dwells_from}
use Rattle.rail_course.proofs.dwells.dwells_of.Given as goal

abbrev pub invariant-loop-ms : goal.invariant-loop-ms
invariant-loop-ms l = record {
  small : l.until ≤ 2 ^ 33 * l.ms-index;
  left : l.dwells.items ++ dwells_from l.until (map (whole_ticks l.design.station) (drop l.ms-index l.dwell_ms)) ≡ dwells_from 0 (map (whole_ticks l.design.station) l.dwell_ms);
}
