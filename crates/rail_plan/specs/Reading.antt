-- The plan in bytes, or the first refusal.
use Rattle.std.specs.Prelude.{◌≡◌, ℕ, ◌+◌, List, [], ◌∷◌, map, filter, flat_map, length, position, bytes_eq, Option}
use Rattle.std.specs.Prelude.{Some, None, is_none, unwrap_or, option_map, option_and_then, Result, Ok, Err}
use Rattle.std.specs.Prelude.{if◌then◌else◌}
use Rattle.std.specs.List.{filter_map}
use Rattle.rail_base.specs.declared.station.Station.{Station}
use Rattle.rail_base.specs.declared.station.TrainNo.{TrainNo}
use Rattle.rail_base.specs.declared.route.Route.{Route}
use Rattle.rail_base.specs.declared.route.RouteNo.{RouteNo}
use Rattle.rail_base.specs.declared.plan.Command.{Command}
use Rattle.rail_base.specs.Admission.{is_from}
use Rattle.rail_base.specs.Numbering.{entry, one_to}
use Rattle.serde_json.specs.Data.{Data, null}
use Rattle.rail_plan.specs.declared.fault.PlanCode.{PlanCode}
use Rattle.rail_plan.specs.declared.fault.PlanCode.TheVariants.{P1, P2, P3, P4}
use Rattle.rail_plan.specs.declared.fault.PlanFault.{PlanFault}
use Rattle.rail_plan.specs.declared.fault.PlanFault.TheVariants as fault
use Rattle.rail_plan.specs.declared.place.PlanPlace.{PlanPlace}
use Rattle.rail_plan.specs.declared.place.PlanPlace.TheVariants as place
use Rattle.rail_plan.specs.Text.{Written, json_of, array_of, command_of, text_steps}
use Rattle.rail_plan.specs.WellFormed.{misplaced}
use Rattle.rail_plan.specs.Executable.{blocked}

-- ---- names and numbers

-- the names of the trains, in file order
abbrev pub train_names : Station → List (List ℕ)
train_names d = map (λ t. t.name) d.trains

-- the train of this name
abbrev pub train_named : List (List ℕ) → List ℕ → Option TrainNo
train_named names name = option_map (λ i. record { 0 = i + 1 }) (position (bytes_eq name) names)

-- the route of this number, where there are so many
abbrev pub route_numbered : ℕ → ℕ → Option RouteNo
route_numbered many n = if is_from 1 many n then Some (record { 0 = n }) else None

-- the command, where its train and its route are there
abbrev pub known : List (List ℕ) → ℕ → Written → Option Command
known names many w =
    let of_train = λ (t : TrainNo). option_map (λ r. record { train = t; route = r }) (route_numbered many w.1) in
    option_and_then of_train (train_named names w.0)

-- the numbers of the members of which f gives nothing
abbrev pub missing : {X Y : Type 0} → (X → Option Y) → X → List X → List ℕ
missing f other xs = filter (λ j. is_none (f (entry other xs j))) (one_to (length xs))

-- the places of the commands whose train or route isn't there, in text order
abbrev pub unknown : List (List ℕ) → ℕ → List (List Written) → List PlanPlace
unknown names many text =
    let places = λ (i : ℕ). map (place.Command i) (missing (known names many) ([], 0) (entry [] text i)) in
    flat_map places (one_to (length text))

-- the plan of those that are
abbrev pub planned : List (List ℕ) → ℕ → List (List Written) → List (List Command)
planned names many text = map (filter_map (known names many)) text

-- ---- the refusals

-- a code, and the place for which it is given
abbrev pub Refusal : Type 0
Refusal = PlanCode × PlanPlace

-- the first of these places with its code, or else what is answered where there is none
abbrev pub unless : {X : Type 0} → PlanCode → List PlanPlace → Result X Refusal → Result X Refusal
unless code [] answer = answer
unless code (p ∷ ps) answer = Err (code, p)

-- the plan, where it is well formed for 256 and executable
abbrev pub admitted_plan : Station → List Route → List (List Command) → Result (List (List Command)) Refusal
admitted_plan d routes plan = unless P3 (misplaced d routes 256 plan) (unless P4 (blocked d routes plan) (Ok plan))

-- the plan of a text, which may be none
abbrev pub plan_of_text : Station → List Route → Option (List (List Written)) → Result (List (List Command)) Refusal
plan_of_text d routes None = Err (P1, place.File)
plan_of_text d routes (Some text) =
    let names = train_names d in
    let many = length routes in
    unless P2 (unknown names many text) (admitted_plan d routes (planned names many text))

-- the plan of the bytes
abbrev pub plan_of : Station → List Route → List ℕ → Result (List (List Command)) Refusal
plan_of d routes bytes = plan_of_text d routes (option_and_then text_steps (json_of bytes))

-- what was answered, seen by v, is this; want of memory is free
abbrev pub GivesOrFails : {T X : Type 0} → (T → X) → Result T PlanFault → Result X Refusal → Type 0
GivesOrFails v (Ok x) answer = answer ≡ Ok (v x)
GivesOrFails v (Err (fault.Refused code place)) answer = answer ≡ Err (code, place)
GivesOrFails v (Err fault.Memory) answer = Unit {0}

-- ---- step by step, over the text's values

-- the command in a value, where its train and its route are there
abbrev pub seen : List (List ℕ) → ℕ → Data → Option Command
seen names many d = option_and_then (known names many) (command_of d)

-- the places of the values of a step that spell none
abbrev pub unread_in : List (List ℕ) → ℕ → ℕ → List Data → List PlanPlace
unread_in names many i ds = map (place.Command i) (missing (seen names many) null ds)

-- the commands in the others
abbrev pub read_in : List (List ℕ) → ℕ → List Data → List Command
read_in names many ds = filter_map (seen names many) ds

-- the values of a step
abbrev pub values_of : Data → List Data
values_of d = unwrap_or (array_of d) []

-- the places of all steps
abbrev pub unread : List (List ℕ) → ℕ → List Data → List PlanPlace
unread names many ds = flat_map (λ i. unread_in names many i (values_of (entry null ds i))) (one_to (length ds))

-- the commands of a step, or the first of its places
abbrev pub step_read : List (List ℕ) → ℕ → ℕ → List Data → Result (List Command) Refusal
step_read names many i ds = unless P2 (unread_in names many i ds) (Ok (read_in names many ds))

-- the commands of all steps
abbrev pub read_steps : List (List ℕ) → ℕ → List Data → List (List Command)
read_steps names many ds = map (λ d. read_in names many (values_of d)) ds

-- the commands of all steps, or the first place
abbrev pub steps_read : List (List ℕ) → ℕ → List Data → Result (List (List Command)) Refusal
steps_read names many ds = unless P2 (unread names many ds) (Ok (read_steps names many ds))
