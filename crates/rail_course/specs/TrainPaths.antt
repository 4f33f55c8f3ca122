-- What is worked out once of each train.
use Rattle.std.specs.Prelude.{◌≡◌, ◌^◌, List, All, map}
use Rattle.rail_base.specs.declared.station.Station.{Station}
use Rattle.rail_base.specs.declared.station.TrainNo.{TrainNo}
use Rattle.rail_base.specs.declared.route.Route.{Route}
use Rattle.rail_base.specs.declared.route.RouteNo.{RouteNo}
use Rattle.rail_base.specs.Stations.{IsTrain, train_of, train_length, trains, dwell_ticks}
use Rattle.rail_motion.specs.Motor.{rates_of}
use Rattle.rail_motion.specs.Track.{stretches_of, IsRising, LeastAhead, NoneSlower}
use Rattle.rail_spec.specs.Dispatches.{rates, stretches}
use Rattle.rail_spec.specs.Places.{path_nodes, visits_on}
use Rattle.rail_course.specs.declared.train_path.TrainPath.{TrainPath}
use Rattle.rail_course.specs.Dwells.{dwells_from}
use Rattle.rail_course.specs.Milestones.{AreMilestones, ComeInTurn}
use Rattle.rail_course.specs.PathNodes.{LieBelow}
use Rattle.rail_course.specs.Prefixes.{no_prefix, prefixes_from}
use Rattle.rail_course.specs.Tracks.{IsPathInRange, routes_at}

-- the train path is that of its train on this path
pub record IsTrainPath (d : Station) (routes : List Route) (path : List RouteNo) (c : TrainPath) : Type 0 where
  pub train : IsTrain d c.train
  pub long : c.length ≡ train_length d c.train
  pub motor : rates_of c.motor ≡ rates d c.train
  pub range : IsPathInRange routes path
  pub given : c.path.items ≡ path
  pub parts : c.prefixes.items ≡ prefixes_from no_prefix (routes_at routes path)
  pub rising : IsRising c.spans.items
  pub none_slower : NoneSlower c.spans.items
  pub least : LeastAhead c.spans.items
  pub track : stretches_of c.spans.items ≡ stretches d (routes_at routes path)
  pub nodes : c.path_nodes.items ≡ path_nodes (routes_at routes path)
  pub on_path : LieBelow (2 ^ 47) c.path_nodes.items
  pub milestones : AreMilestones (map (λ n. n.event.place) c.path_nodes.items) c.node_milestones.items
  pub in_turn : ComeInTurn (λ n. n.event.place) (λ n. n.event.granted) c.path_nodes.items
  pub visits : c.visits.items ≡ visits_on (train_of d c.train).visits (path_nodes (routes_at routes path))
  pub dwells : c.dwells.items ≡ dwells_from 0 (dwell_ticks d c.train)

-- these are the train paths of all trains on their paths, in file order
pub record AreTrainPaths (d : Station) (routes : List Route) (path : TrainNo → List RouteNo)
    (cs : List TrainPath) : Type 0 where
  pub all : map (λ (c : TrainPath). c.train) cs ≡ trains d
  pub each : All (λ c. IsTrainPath d routes (path c.train) c) cs
