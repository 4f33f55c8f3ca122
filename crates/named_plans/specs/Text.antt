-- The text of a plan in which each route is the list of the names by which it is shown: a line for each step.
use Rattle.std.specs.Prelude.{ℕ, List, [], ◌∷◌, ◌++◌, map, codes}
use Rattle.std.specs.List.{concat}
use Rattle.serde_json.specs.Data.{Data, string, array}
use Rattle.serde_json.specs.View.{items_of}
use Rattle.serde_json.specs.Written.{compact_text}
use Rattle.rail_base.specs.declared.station.Station.{Station}
use Rattle.rail_base.specs.declared.plan.Command.{Command}
use Rattle.rail_base.specs.Routes.{route_at}
use Rattle.rail_base.specs.Stations.{train_of}
use Rattle.rail_spec.specs.Track.{routes_of}
use Rattle.plan_text.specs.Text.{in_file_order}
use Rattle.plan_names.specs.Values.{names_value}
use Rattle.plan_names.specs.Shown.{shown}

-- a command as `["A",["x1","x2"]]`: the name of its train and the names by which its route is shown
abbrev pub command_value : Station → Command → Data
command_value d c = array (items_of (string (train_of d c.train).name
    ∷ names_value (shown d (routes_of d) (route_at (routes_of d) c.route)) ∷ []))

-- a step: its commands, in file order of their trains
abbrev pub step_value : Station → List Command → Data
step_value d step = array (items_of (map (command_value d) (in_file_order d step)))

-- how the line of a step ends: with a comma where other steps follow
abbrev pub line_end : List (List Command) → List ℕ
line_end [] = codes "\n"
line_end (s ∷ ss) = codes ",\n"

-- the lines of the steps
abbrev pub step_lines : Station → List (List Command) → List (List ℕ)
step_lines d [] = []
step_lines d (s ∷ ss) = (compact_text (step_value d s) ++ line_end ss) ∷ step_lines d ss

-- those of the plan
abbrev pub named_lines : Station → List (List Command) → List (List ℕ)
named_lines d plan = codes "{\"steps\":[\n" ∷ (step_lines d plan ++ codes "]}\n" ∷ [])

-- the text of the plan
abbrev pub named_text : Station → List (List Command) → List ℕ
named_text d plan = concat (named_lines d plan)
