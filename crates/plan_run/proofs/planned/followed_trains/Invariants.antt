use Rattle.std.proofs.Common.{◌≡◌, ◌++◌, All, drop, map}
use Rattle.rail_base.specs.Stations.{trains}
use Rattle.rail_spec.specs.Dispatches.{of_plan}
use Rattle.rail_course.specs.declared.journey.Journey.{Journey}
use Rattle.dispatch_run.specs.declared.traffic.FollowedTrain.{FollowedTrain}
use Rattle.dispatch_run.specs.FollowedTrains.{IsFollowedTrain}
use Rattle.plan_run.proofs.planned.followed_trains.Given as goal

abbrev pub invariant-loop-number : goal.invariant-loop-number
invariant-loop-number l = record {
  left : l.left.items ≡ drop l._number l.fn.planned.journeys.items;
  each : All (IsFollowedTrain l.fn.planned.interlocking.now.design.station l.fn.planned.interlocking.now.routes (of_plan l.fn.planned.interlocking.now.routes l.fn.planned.plan.now.steps)) l.followed_trains.items;
  all : map (λ (f : FollowedTrain). f.journey.train_path.train) l.followed_trains.items ++ map (λ (j : Journey). j.train_path.train) (drop l._number l.fn.planned.journeys.items) ≡ trains l.fn.planned.interlocking.now.design.station;
}
