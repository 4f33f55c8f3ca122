-- What a plan with names says: the plan with numbers in which each list of names is the number of the route that is
-- shown by them, or 0, which no route has, where none is.
use Rattle.std.specs.Prelude.{ℕ, List, [], ◌∷◌, map, Option, Some, None, option_map, option_and_then, codes, Result}
use Rattle.serde_json.specs.Data.{Data, unsigned, number, string, array, object, member, no_members}
use Rattle.serde_json.specs.View.{items_of}
use Rattle.rail_base.specs.declared.station.Station.{Station}
use Rattle.rail_base.specs.declared.route.RouteNo.{RouteNo}
use Rattle.rail_base.specs.declared.plan.Command.{Command}
use Rattle.rail_plan.specs.Reading.{Refusal, plan_of_text}
use Rattle.rail_plan.specs.Text.{array_of, json_of, of_all, steps_at, string_of, text_steps}
use Rattle.rail_spec.specs.Track.{routes_of}
use Rattle.plan_names.specs.Shown.{number_among, shown}

-- the number, or 0
abbrev pub number_or_none : Option RouteNo → ℕ
number_or_none None = 0
number_or_none (Some r) = r.0

-- the names in a list
abbrev pub names_in : Data → Option (List (List ℕ))
names_in v = option_and_then (of_all string_of) (array_of v)

-- the names of all routes, listed by number, are these
module _ (all : List (List (List ℕ))) where
  -- a train and a number, where both are there
  abbrev pub both : Option (List ℕ) → Option (List (List ℕ)) → Option Data
  both (Some train) (Some names) =
      Some (array (items_of (string train ∷ number (unsigned (number_or_none (number_among all names))) ∷ [])))
  both _ _ = None

  abbrev pub two_numbered : List Data → Option Data
  two_numbered (t ∷ r ∷ []) = both (string_of t) (names_in r)
  two_numbered _ = None

  -- a command: the name of a train and a list of names
  abbrev pub command_numbered : Data → Option Data
  command_numbered v = option_and_then two_numbered (array_of v)

  -- a step: an array of commands
  abbrev pub step_numbered : Data → Option Data
  step_numbered v =
      option_map (λ cs. array (items_of cs)) (option_and_then (of_all command_numbered) (array_of v))

  -- a plan: an object with the one key `steps`, an array of steps
  abbrev pub plan_numbered : Data → Option Data
  plan_numbered v = option_map (λ ss. object (member (codes "steps") (array (items_of ss)) no_members))
      (option_and_then (of_all step_numbered) (option_and_then array_of (steps_at v)))

-- the names of the routes of a design, listed by number
abbrev pub all_shown : Station → List (List (List ℕ))
all_shown d = map (shown d (routes_of d)) (routes_of d)

-- the plan with names in the bytes, or the first refusal: what is read of the plan with numbers
abbrev pub named_plan_of : Station → List ℕ → Result (List (List Command)) Refusal
named_plan_of d bytes = plan_of_text d (routes_of d)
    (option_and_then text_steps (option_and_then (plan_numbered (all_shown d)) (json_of bytes)))
