-- What is said of plans over an interlocking, and of what is left for one step by those before it.
use Rattle.std.specs.Prelude.{ℕ, Bool, not, List, filter, length, Option, Result}
use Rattle.rail_base.specs.declared.station.TrainNo.{TrainNo}
use Rattle.rail_base.specs.declared.station.SectionNo.{SectionNo}
use Rattle.rail_base.specs.declared.route.Route.{Route}
use Rattle.rail_base.specs.declared.plan.Command.{Command}
use Rattle.rail_base.specs.Stations.{first_visit, train_of, trains}
use Rattle.rail_spec.specs.Plans.{path_routes}
use Rattle.interlocking.specs.declared.railway.Interlocking.{Interlocking}
use Rattle.serde_json.specs.Data.{Data}
use Rattle.rail_plan.specs.declared.place.PlanPlace.{PlanPlace}
use Rattle.rail_plan.specs.Ahead as ahead
use Rattle.rail_plan.specs.Executable as executable
use Rattle.rail_plan.specs.Holds as held
use Rattle.rail_plan.specs.declared.holds.Hold.{Hold}
use Rattle.rail_plan.specs.Reading as reading
use Rattle.rail_plan.specs.Reading.{Refusal, steps_read, train_names}
use Rattle.rail_plan.specs.Text.{Written}
use Rattle.rail_plan.specs.WellFormed as formed
use Rattle.rail_plan.specs.WellFormed.{begins_well, last_of_list}

module _ (i : Interlocking) where
  -- ---- well formed

  -- the route starts where these steps bring the train
  abbrev pub begins_after : List (List Command) → TrainNo → Route → Bool
  begins_after before t =
      begins_well (first_visit (train_of i.design.station t)) (last_of_list (path_routes i.routes before t))

  -- the path that these steps give to the train may go on with the route
  abbrev pub may_follow_after : List (List Command) → TrainNo → Route → Bool
  may_follow_after before t = formed.may_follow (train_of i.design.station t) (path_routes i.routes before t)

  -- a train's command in a step is right after the steps before it
  abbrev pub is_placed : List (List Command) → List Command → TrainNo → Bool
  is_placed = formed.is_placed i.design.station i.routes

  -- the trains, in file order, whose command in the step isn't
  abbrev pub misplaced_after : List (List Command) → List Command → List TrainNo
  misplaced_after before step = filter (λ t. not (is_placed before step t)) (trains i.design.station)

  -- these, by step and train
  abbrev pub placed_badly : List (List Command) → List PlanPlace
  placed_badly = formed.placed_badly i.design.station i.routes

  -- where the plan isn't well formed
  abbrev pub misplaced : ℕ → List (List Command) → List PlanPlace
  misplaced = formed.misplaced i.design.station i.routes

  -- ---- executable

  -- a command is for another train, and has the section
  abbrev pub takes : TrainNo → SectionNo → Command → Bool
  takes = held.takes i.routes

  -- the places of a train in a step, after the steps before it
  abbrev pub stopped_in : List (List Command) → List Command → TrainNo → List PlanPlace
  stopped_in = ahead.stopped_in i.design.station i.routes

  -- the places of a step, by train
  abbrev pub stopped : List (List Command) → List Command → List PlanPlace
  stopped = ahead.stopped i.design.station i.routes

  -- how much track the train of a command lacks after the command's route, for a release at this offset of the route
  abbrev pub lack_after : Command → ℕ → ℕ
  lack_after = held.lack_after i.design.station i.routes

  -- the hold on a section after a command took its route
  abbrev pub taken_by : SectionNo → Command → Hold → Hold
  taken_by = held.taken_by i.design.station i.routes

  -- and after the commands of a step took theirs
  abbrev pub taken_by_step : SectionNo → List Command → Hold → Hold
  taken_by_step = held.taken_by_step i.design.station i.routes

  -- the hold on a section after a step
  abbrev pub turned : SectionNo → List Command → Hold → Hold
  turned = held.turned i.design.station i.routes

  -- the holds or the commands of the step keep the train from the section
  abbrev pub is_kept_from : List Hold → List Command → TrainNo → SectionNo → Bool
  is_kept_from = held.is_kept_from i.routes

  -- the sections of a command's route from which they keep it
  abbrev pub kept_sections : List Hold → List Command → Command → List SectionNo
  kept_sections = held.kept_sections i.routes

  -- the holds say for each section the one train that can't leave it after these steps
  abbrev pub AreHolds : List (List Command) → List Hold → Type 0
  AreHolds = held.AreHolds i.design.station i.routes

  -- where the plan isn't executable, by step, train and section
  abbrev pub blocked : List (List Command) → List PlanPlace
  blocked = executable.blocked i.design.station i.routes

  -- ---- reading

  -- the commands in values, step by step, or the first refusal
  abbrev pub known_steps : List Data → Result (List (List Command)) Refusal
  known_steps = steps_read (train_names i.design.station) (length i.routes)

  -- the plan, where it is well formed for 256 and executable
  abbrev pub admitted_plan : List (List Command) → Result (List (List Command)) Refusal
  admitted_plan = reading.admitted_plan i.design.station i.routes

  -- the plan of a text, which may be none
  abbrev pub plan_of_text : Option (List (List Written)) → Result (List (List Command)) Refusal
  plan_of_text = reading.plan_of_text i.design.station i.routes

  -- the plan of the bytes
  abbrev pub plan_of : List ℕ → Result (List (List Command)) Refusal
  plan_of = reading.plan_of i.design.station i.routes
