-- A plan that is run, and what a tick takes for granted of the states before it.
use Rattle.std.specs.Prelude.{◌≡◌, ℕ, ◌≤◌, ◌<◌, ◌-◌, ◌^◌, List, length, take, true}
use Rattle.rail_base.specs.declared.station.Station.{Station}
use Rattle.rail_base.specs.declared.station.TrainNo.{TrainNo}
use Rattle.rail_base.specs.declared.route.Route.{Route}
use Rattle.rail_base.specs.declared.plan.Command.{Command}
use Rattle.rail_base.specs.declared.history.TrainHistory.{TrainHistory}
use Rattle.rail_base.specs.declared.state.TrainState.{TrainState}
use Rattle.rail_spec.specs.Motion.{permitted}
use Rattle.rail_spec.specs.Plans.{path, path_routes}
use Rattle.rail_spec.specs.Dispatches.{rates, stretches, of_plan, with_granted, authority, state_at}
use Rattle.rail_spec.specs.Histories.{history_at}

-- these are the states and the histories at a tick up to 86,400
pub record IsReached (d : Station) (routes : List Route) (plan : List (List Command)) (tick : ℕ)
    (s : List TrainState) (histories : List TrainHistory) : Type 0 where
  pub at_most_86400 : tick ≤ 86400
  pub is : s ≡ state_at d routes (of_plan routes plan) tick
  pub told : histories ≡ history_at d routes plan tick

-- full braking is permitted by what is granted after the tick, and the numbers are in range
pub record CanMove (d : Station) (routes : List Route) (plan : List (List Command)) (t : TrainNo)
    (granted : ℕ) (s : TrainState) : Type 0 where
  pub within : granted ≤ length (path plan t)
  pub braking : 1 ≤ granted → let end = authority d routes (of_plan routes plan) t (with_granted granted s) in
      let track = stretches d (take granted (path_routes routes plan t)) in
      permitted (rates d t) track end s.x s.v (s.v - (rates d t).brake) ≡ true
  pub below_2_46 : s.x < 2 ^ 46
  pub slow : s.v ≤ 100000
  pub stood : s.stood ≤ 86400

-- these are the states at a tick from 1 on
pub record IsNow (d : Station) (routes : List Route) (plan : List (List Command)) (tick : ℕ)
    (s : List TrainState) : Type 0 where
  pub at_least_one : 1 ≤ tick
  pub is : s ≡ state_at d routes (of_plan routes plan) tick
