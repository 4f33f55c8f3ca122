use Rattle.std.proofs.Common.{◌≡◌, ◌+◌, ◌-◌, ◌≤◌, ◌++◌, map, length}
use Rattle.rail_base.specs.Stations.{trains}
use Rattle.rail_course.proofs.Numbered.{numbered}
use Rattle.cone_spec.specs.Cones.{free_path}
use Rattle.cone_run.proofs.paths.free_paths.Given as goal

abbrev pub invariant-loop-number : goal.invariant-loop-number
invariant-loop-number l = record {
  first : 1 ≤ l.number;
  left : l.paths.items ++ map (free_path l.cone) (numbered l.number (length l.interlocking.design.station.trains + 1 - l.number)) ≡ map (free_path l.cone) (trains l.interlocking.design.station);
}
