use Rattle.std.proofs.Common.{◌≡◌, ◌++◌, All, drop, map}
use Rattle.rail_base.specs.Stations.{trains}
use Rattle.cone_spec.specs.Cones.{of_cone}
use Rattle.rail_course.specs.declared.journey.Journey.{Journey}
use Rattle.dispatch_run.specs.declared.traffic.FollowedTrain.{FollowedTrain}
use Rattle.dispatch_run.specs.FollowedTrains.{IsFollowedTrain}
use Rattle.cone_run.proofs.layout.ConeLayout.followed_trains.Given as goal

abbrev pub invariant-loop-number : goal.invariant-loop-number
invariant-loop-number l = record {
  left : l.left.items ≡ drop l._number l.fn.journeys.items;
  each : All (IsFollowedTrain l.self.interlocking.now.design.station l.self.interlocking.now.routes (of_cone l.self.cone.now)) l.followed_trains.items;
  all : map (λ (f : FollowedTrain). f.journey.train_path.train) l.followed_trains.items ++ map (λ (j : Journey). j.train_path.train) (drop l._number l.fn.journeys.items) ≡ trains l.self.interlocking.now.design.station;
}
