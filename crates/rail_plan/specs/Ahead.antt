-- What earlier steps leave of the sections for one step.
use Rattle.std.specs.Prelude.{◌+◌, Bool, not, ◌&&◌, ◌||◌, nat_le, List, [], ◌∷◌, map, filter, flat_map, length}
use Rattle.std.specs.Prelude.{sum_by}
use Rattle.std.specs.List.{list_any}
use Rattle.rail_base.specs.declared.station.Station.{Station}
use Rattle.rail_base.specs.declared.station.TrainNo.{TrainNo}
use Rattle.rail_base.specs.declared.station.SectionNo.{SectionNo}
use Rattle.rail_base.specs.declared.route.Route.{Route}
use Rattle.rail_base.specs.declared.plan.Command.{Command}
use Rattle.rail_base.specs.Stations.{train_length, trains}
use Rattle.rail_spec.specs.Plans.{is_train, route_at, length_mm, sections, goes_over, release_offset, exits}
use Rattle.rail_spec.specs.Plans.{path_routes}
use Rattle.rail_plan.specs.Holds.{takes}
use Rattle.rail_plan.specs.declared.place.PlanPlace.{PlanPlace}
use Rattle.rail_plan.specs.declared.place.PlanPlace.TheVariants as place

-- these steps give e's train so much track that it can leave the section of e
abbrev pub clears : Station → List Route → List (List Command) → Command → SectionNo → Bool
clears d routes between e z =
    let given = path_routes routes between e.train in
    nat_le (release_offset (route_at routes e.route) z + train_length d e.train) (sum_by length_mm given)
    || list_any exits given

-- e is for another train, goes over the section and is not so given
abbrev pub stops : Station → List Route → List (List Command) → TrainNo → SectionNo → Command → Bool
stops d routes between t z e = not (is_train e.train t) && goes_over (route_at routes e.route) z
    && not (clears d routes between e z)

-- a command of the step has the section, or one of those before it so stops the train
abbrev pub is_stopped : Station → List Route → TrainNo → SectionNo → List (List Command) → List Command → Bool
is_stopped d routes t z [] step = list_any (takes routes t z) step
is_stopped d routes t z (s ∷ ss) step = list_any (stops d routes (s ∷ ss) t z) s || is_stopped d routes t z ss step

-- the sections of c's route over which it is stopped
abbrev pub stopped_sections : Station → List Route → List (List Command) → List Command → Command → List SectionNo
stopped_sections d routes before step c =
    filter (λ z. is_stopped d routes c.train z before step) (sections (route_at routes c.route))

-- the places of a train in a step, after the steps before it
abbrev pub stopped_in : Station → List Route → List (List Command) → List Command → TrainNo → List PlanPlace
stopped_in d routes before step t =
    let places = λ (c : Command). map (place.Section (length before + 1) t) (stopped_sections d routes before step c) in
    flat_map places (filter (λ c. is_train c.train t) step)

-- the places of a step, by train
abbrev pub stopped : Station → List Route → List (List Command) → List Command → List PlanPlace
stopped d routes before step = flat_map (stopped_in d routes before step) (trains d)
