use Rattle.std.proofs.Common.{◌≡◌, ◌+◌, ◌≤◌, ◌<◌, length}
use Rattle.rail_base.specs.declared.station.TrainNo.{TrainNo}
use Rattle.rail_course.specs.Ready.{own_waits}
use Rattle.cone_run.specs.Paths.{AreTrainWaitsInCone}
use Rattle.cone_run.proofs.paths.ConePaths.waits_of_all.Given as goal

abbrev pub invariant-loop-number : goal.invariant-loop-number
invariant-loop-number l = record {
  count : length l.all.items + 1 ≡ l.number;
  each : (t : TrainNo) → 1 ≤ t.0 → t.0 < l.number → AreTrainWaitsInCone l.self t (own_waits l.all.items t);
}
