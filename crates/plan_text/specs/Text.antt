-- The text of a plan: JSON without spaces.
use Rattle.std.specs.Prelude.{ℕ, List, [], ◌∷◌, map, filter, flat_map, codes}
use Rattle.rail_base.specs.declared.station.Station.{Station}
use Rattle.rail_base.specs.declared.plan.Command.{Command}
use Rattle.rail_base.specs.Stations.{train_of, trains}
use Rattle.rail_spec.specs.Plans.{is_train}
use Rattle.serde_json.specs.Data.{Data, unsigned, number, string, array, object, member, no_members}
use Rattle.serde_json.specs.View.{items_of}
use Rattle.serde_json.specs.Written.{compact_text}

-- the commands of a step, in file order of their trains
abbrev pub in_file_order : Station → List Command → List Command
in_file_order d step = flat_map (λ t. filter (λ c. is_train c.train t) step) (trains d)

-- a command: the name of its train and the number of its route
abbrev pub command_value : Station → Command → Data
command_value d c = array (items_of (string (train_of d c.train).name ∷ number (unsigned c.route.0) ∷ []))

-- a step: its commands, in file order of their trains
abbrev pub step_value : Station → List Command → Data
step_value d step = array (items_of (map (command_value d) (in_file_order d step)))

-- a plan: an object with the one key `steps`
abbrev pub plan_value : Station → List (List Command) → Data
plan_value d plan = object (member (codes "steps") (array (items_of (map (step_value d) plan))) no_members)

-- that value, written without spaces
abbrev pub plan_text : Station → List (List Command) → List ℕ
plan_text d plan = compact_text (plan_value d plan)
