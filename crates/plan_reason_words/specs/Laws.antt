-- What the laws say of the lines about plans that are refused.
use Rattle.std.specs.Prelude.{◌≡◌, ℕ, ◌<◌, List, length, None, Some, Err}
use Rattle.rail_base.specs.declared.plan.Command.{Command}
use Rattle.rail_base.specs.declared.route.Route.{Route}
use Rattle.rail_base.specs.declared.station.SectionNo.{SectionNo}
use Rattle.rail_base.specs.declared.station.Station.{Station}
use Rattle.rail_base.specs.declared.station.TrainNo.{TrainNo}
use Rattle.rail_plan.specs.declared.fault.PlanCode.TheVariants.{P2, P3, P4}
use Rattle.rail_plan.specs.declared.place.PlanPlace.TheVariants as place
use Rattle.rail_plan.specs.Reading.{known, plan_of, train_names}
use Rattle.rail_plan.specs.Text.{Written, json_of}
use Rattle.serde_json.specs.Data.{Data}
use Rattle.plan_faults.specs.Laws.{HasKeeper, HasReason}
use Rattle.plan_values.specs.Commands.{plan_in}
use Rattle.plan_values.specs.Values.{written_in}

module _ (d : Station) (routes : List Route) (text : List ℕ) where
  -- the text is a value, of whose plan this is so
  abbrev pub OfPlan : (List (List Command) → Type 0) → Type 0
  OfPlan Is = (v : Data) × (json_of text ≡ Some v) × Is (plan_in d routes v)

  -- the text is a value that has a command at this place, and the command's train or route is not there
  abbrev pub HasUnknown : ℕ → ℕ → Type 0
  HasUnknown i j = (v : Data) × (json_of text ≡ Some v) × (w : Written) × (written_in v i j ≡ Some w)
      × (known (train_names d) (length routes) w ≡ None)

  -- a text that is refused for a command has such a command there
  abbrev pub UnknownIsThere : Type 0
  UnknownIsThere = (i j : ℕ) → plan_of d routes text ≡ Err (P2, place.Command i j) → HasUnknown i j

  -- one that is refused for a step has more than 256
  abbrev pub StepsAreMany : Type 0
  StepsAreMany = (n : ℕ) → plan_of d routes text ≡ Err (P3, place.Step n) → OfPlan (λ plan. 256 < length plan)

  -- one that is refused for a train's command has a reason against it
  abbrev pub MisplacedIsSo : Type 0
  MisplacedIsSo = (i : ℕ) (t : TrainNo) → plan_of d routes text ≡ Err (P3, place.Train i t)
      → OfPlan (λ plan. HasReason d routes plan i t)

  -- one that is refused for a section has a command that keeps the train from it
  abbrev pub BlockedIsSo : Type 0
  BlockedIsSo = (i : ℕ) (t : TrainNo) (z : SectionNo) → plan_of d routes text ≡ Err (P4, place.Section i t z)
      → OfPlan (λ plan. HasKeeper d routes plan i t z)
