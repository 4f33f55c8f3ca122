-- What a ride is of: a train in the run of a plan.
use Rattle.std.specs.Prelude.{ℕ, List}
use Rattle.rail_base.specs.declared.history.TrainHistory.{TrainHistory}
use Rattle.rail_base.specs.declared.route.Route.{Route}
use Rattle.rail_base.specs.declared.route.RouteNo.{RouteNo}
use Rattle.rail_base.specs.declared.state.TrainState.{TrainState}
use Rattle.rail_base.specs.declared.station.TrainNo.{TrainNo}
use Rattle.rail_spec.specs.Motion.{SpanSeen}
use Rattle.rail_spec.specs.Plans.{path}
use Rattle.tick_sim.specs.declared.ride.Ride.{Ride}
use Rattle.tick_sim.specs.Running as running

module _ (r : Ride) where
  -- its train
  abbrev pub train_of_ride : TrainNo
  train_of_ride = r.journey.now.train_path.train

  -- the routes that it is granted in the run
  abbrev pub path_granted : List RouteNo
  path_granted = path r.run.now.plan.now.steps train_of_ride

  -- the first routes of its path, so many of them
  abbrev pub routes_granted : ℕ → List Route
  routes_granted granted = running.first_routes r.run.now train_of_ride granted

  -- their track
  abbrev pub track_granted : ℕ → List SpanSeen
  track_granted granted = running.stretches_granted r.run.now train_of_ride granted

  -- the train is in this state one tick after the states and the histories are these
  abbrev pub HasMoved : List TrainState → List TrainHistory → TrainState → Type 0
  HasMoved states histories state = running.IsMovedIn r.run.now states histories train_of_ride state
