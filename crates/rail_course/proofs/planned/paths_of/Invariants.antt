use Rattle.std.proofs.Common.{◌≡◌, ◌+◌, ◌-◌, ◌≤◌, ◌++◌, map, length}
use Rattle.rail_base.specs.Stations.{trains}
use Rattle.rail_spec.specs.Plans.{path}
use Rattle.rail_course.proofs.Numbered.{numbered}
use Rattle.rail_course.proofs.planned.paths_of.Given as goal

abbrev pub invariant-loop-number : goal.invariant-loop-number
invariant-loop-number l = record {
  first : 1 ≤ l.number;
  left : l.paths.items ++ map (path l.plan.steps) (numbered l.number (length l.interlocking.design.station.trains + 1 - l.number)) ≡ map (path l.plan.steps) (trains l.interlocking.design.station);
}
