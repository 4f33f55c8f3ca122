use Rattle.std.proofs.Common.{◌≡◌, ◌++◌, ◌+◌, ◌-◌, ◌≤◌, All, map, length}
use Rattle.rail_base.specs.Numbering.{count_from}
use Rattle.rail_base.specs.Stations.{trains}
use Rattle.rail_course.specs.Itineraries.{IsTrainPathIn}
use Rattle.rail_course.specs.declared.train_path.TrainPath.{TrainPath}
use Rattle.rail_course.proofs.itineraries.Itineraries.train_paths.Given as goal

abbrev pub invariant-loop-number : goal.invariant-loop-number
invariant-loop-number l = record {
  first : 1 ≤ l.number;
  each : All (IsTrainPathIn l.self) l.train_paths.items;
  left : map (λ (c : TrainPath). c.train) l.train_paths.items ++ map (λ n. record { 0 = n }) (count_from l.number (length l.self.interlocking.now.design.station.trains + 1 - l.number)) ≡ trains l.self.interlocking.now.design.station;
}
