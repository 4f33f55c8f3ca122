-- Where a train has still to stand, by what is worked out of its path.
use Rattle.std.specs.Prelude.{◌≡◌, ℕ, ◌≤◌, ◌<◌, ◌^◌, if◌then◌else◌, nat_le, List, length, Option, None, Some}
use Rattle.std.specs.Option.{ForSome}
use Rattle.rail_base.specs.declared.station.Station.{Station}
use Rattle.rail_base.specs.declared.route.Route.{Route}
use Rattle.rail_base.specs.declared.state.PathNode.{PathNode}
use Rattle.rail_base.specs.declared.state.TrainState.{TrainState}
use Rattle.rail_spec.specs.Dispatches.{Dispatch, stop_place}
use Rattle.rail_course.specs.declared.train_path.TrainPath.{TrainPath}
use Rattle.rail_course.specs.TrainPaths.{IsTrainPath}

-- a visit, where so many commands lead to it
abbrev pub made_within : ℕ → Option PathNode → Option PathNode
made_within granted None = None
made_within granted (Some n) = if nat_le n.event.granted granted then Some n else None

-- this is the place at which the train has still to stand, in each dispatch in which this is its train path
abbrev pub IsStopPlace : TrainPath → TrainState → Option ℕ → Type 0
IsStopPlace c s place = (d : Station) (routes : List Route) (p : Dispatch) → IsTrainPath d routes (p.path c.train) c
    → s.granted ≤ length (p.path c.train)
    → (place ≡ stop_place d routes p c.train s) × ForSome place (λ x. x < 2 ^ 47)
