-- The lines behind that which says that a plan is refused.
use Rattle.std.specs.Prelude.{◌≡◌, ℕ, List, [], ◌∷◌, ◌++◌, codes, decimal, length, Option, None, Some, option_map}
use Rattle.rail_base.specs.declared.plan.Command.{Command}
use Rattle.rail_base.specs.declared.route.Route.{Route}
use Rattle.rail_base.specs.declared.station.Station.{Station}
use Rattle.rail_base.specs.declared.station.TrainNo.{TrainNo}
use Rattle.rail_base.specs.Numbering.{entry}
use Rattle.rail_plan.specs.declared.place.PlanPlace.{PlanPlace}
use Rattle.rail_plan.specs.declared.place.PlanPlace.TheVariants as place
use Rattle.rail_plan.specs.Text.{json_of}
use Rattle.serde_json.specs.Data.{Data}
use Rattle.design_places.specs.Shown.{shown}
use Rattle.plan_values.specs.Commands.{plan_in}
use Rattle.plan_places.specs.Places.{IsPlaceOf}
use Rattle.plan_fault_words.specs.Unread.{SaysUnread}
use Rattle.plan_values.specs.Values.{written_in}
use Rattle.plan_faults.specs.Commands.{command_number}
use Rattle.plan_faults.specs.Reasons.{reason_in}
use Rattle.plan_reason_words.specs.Kept.{kept_lines}
use Rattle.plan_reason_words.specs.Reasons.{reason_lines}
use Rattle.plan_reason_words.specs.Unknown.{unknown_lines}

-- `this plan has 300 steps, and 256 are allowed`
abbrev pub steps_line : List (List Command) → List ℕ
steps_line plan = codes "this plan has " ++ decimal (length plan) ++ codes " steps, and 256 are allowed\n"

module _ (d : Station) (routes : List Route) (v : Data) (plan : List (List Command)) where
  -- what is wrong at a place of a plan whose text is this value
  abbrev pub fault_lines : PlanPlace → List (List ℕ)
  fault_lines place.File = []
  fault_lines (place.Command i j) = unknown_lines d routes (written_in v i j)
  fault_lines (place.Train i t) = reason_lines d routes t (reason_in d routes t plan i)
  fault_lines (place.Step n) = steps_line plan ∷ []
  fault_lines (place.Section i t z) = kept_lines d routes plan i t z

-- the command that a step has for a train, by the step and its number in the step
abbrev pub number_in : List (List Command) → ℕ → TrainNo → Option (ℕ × ℕ)
number_in plan i t = option_map (λ j. (i, j)) (command_number (entry [] plan i) t)

-- the command that a place is about
abbrev pub command_of_place : List (List Command) → PlanPlace → Option (ℕ × ℕ)
command_of_place plan place.File = None
command_of_place plan (place.Command i j) = Some (i, j)
command_of_place plan (place.Train i t) = number_in plan i t
command_of_place plan (place.Step n) = None
command_of_place plan (place.Section i t z) = number_in plan i t

-- where a command stands in the text, if that is said
abbrev pub IsPlaceOfCommand : List ℕ → Data → Option (ℕ × ℕ) → Option (List ℕ) → Type 0
IsPlaceOfCommand text v None rest = rest ≡ None
IsPlaceOfCommand text v (Some p) rest = IsPlaceOf text v p.0 p.1 rest

-- where the command stands, and what is wrong
abbrev pub SaysOfPlan : Station → List Route → List ℕ → Data → List (List Command) → PlanPlace → List (List ℕ) → Type 0
SaysOfPlan d routes text v plan place lines = (rest : Option (List ℕ))
    × IsPlaceOfCommand text v (command_of_place plan place) rest
    × (lines ≡ shown text rest ++ fault_lines d routes v plan place)

-- of the commands in a value whose train and route are there
abbrev pub SaysFault : Station → List Route → List ℕ → Data → PlanPlace → List (List ℕ) → Type 0
SaysFault d routes text v place lines = SaysOfPlan d routes text v (plan_in d routes v) place lines

-- of a text that is no plan by its form, what is wrong with that; of another what is wrong at a place of it
abbrev pub SaysOfValue : Station → List Route → List ℕ → PlanPlace → Option Data → List (List ℕ) → Type 0
SaysOfValue d routes text place None lines = SaysUnread text None lines
SaysOfValue d routes text place (Some v) lines = SaysFault d routes text v place lines

abbrev pub SaysRefused : Station → List Route → List ℕ → PlanPlace → List (List ℕ) → Type 0
SaysRefused d routes text place.File lines = SaysUnread text (json_of text) lines
SaysRefused d routes text place lines = SaysOfValue d routes text place (json_of text) lines
