use Rattle.std.proofs.Common.{◌≡◌, ◌+◌, ◌≤◌, ◌<◌, length}
use Rattle.rail_base.specs.declared.station.TrainNo.{TrainNo}
use Rattle.rail_course.specs.Ready.{own_waits}
use Rattle.tick_sim.specs.Pairs.{AreTrainWaitsInPlan}
use Rattle.tick_sim.proofs.pairs.waits_of_all.Given as goal

abbrev pub invariant-loop-number : goal.invariant-loop-number
invariant-loop-number l = record {
  count : length l.all.items + 1 ≡ l.number;
  each : (t : TrainNo) → 1 ≤ t.0 → t.0 < l.number → AreTrainWaitsInPlan l.planned t (own_waits l.all.items t);
}
