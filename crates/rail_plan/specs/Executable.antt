-- Where a plan can't be carried out, in the order in which that is said.
use Rattle.std.specs.Prelude.{ℕ, Bool, not, ◌&&◌, ◌||◌, ◌==◌, nat_lt, List, [], map, filter, flat_map, length}
use Rattle.std.specs.List.{list_any}
use Rattle.rail_base.specs.declared.station.Station.{Station}
use Rattle.rail_base.specs.declared.station.TrainNo.{TrainNo}
use Rattle.rail_base.specs.declared.station.SectionNo.{SectionNo}
use Rattle.rail_base.specs.declared.route.Route.{Route}
use Rattle.rail_base.specs.declared.plan.Command.{Command}
use Rattle.rail_base.specs.Numbering.{entry, one_to}
use Rattle.rail_base.specs.Stations.{trains}
use Rattle.rail_spec.specs.Plans.{is_train, route_at, sections, has_section, goes_over, commands, step_of, can_clear}
use Rattle.rail_plan.specs.declared.place.PlanPlace.{PlanPlace}
use Rattle.rail_plan.specs.declared.place.PlanPlace.TheVariants as place

-- e, for another train, keeps c from the section: it has it too in c's step, or goes over it in an earlier one and
-- can't clear it for c
abbrev pub keeps_from : Station → List Route → List (List Command) → Command → SectionNo → Command → Bool
keeps_from d routes plan c z e =
    let r = route_at routes e.route in
    not (is_train e.train c.train)
    && ((has_section r z && (step_of plan e == step_of plan c))
    || (goes_over r z && nat_lt (step_of plan e) (step_of plan c) && not (can_clear d routes plan e c z)))

-- the sections, in the order of c's route, from which a command of the plan keeps it
abbrev pub blocked_sections : Station → List Route → List (List Command) → Command → List SectionNo
blocked_sections d routes plan c =
    filter (λ z. list_any (keeps_from d routes plan c z) (commands plan)) (sections (route_at routes c.route))

-- the places of a train in the step of this number
abbrev pub blocked_in : Station → List Route → List (List Command) → ℕ → TrainNo → List PlanPlace
blocked_in d routes plan i t =
    let places = λ (c : Command). map (place.Section i t) (blocked_sections d routes plan c) in
    flat_map places (filter (λ c. is_train c.train t) (entry [] plan i))

-- where the plan isn't executable, by step, train and section
abbrev pub blocked : Station → List Route → List (List Command) → List PlanPlace
blocked d routes plan = flat_map (λ i. flat_map (blocked_in d routes plan i) (trains d)) (one_to (length plan))
