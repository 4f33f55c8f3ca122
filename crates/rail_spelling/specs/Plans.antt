-- The plan that the bytes of a file spell: steps of commands, each the name of a train and the number of a route.
use Rattle.std.specs.Prelude.{◌≡◌, ℕ, true, List, [], ◌∷◌, map, Some, codes}
use Rattle.std.specs.Str.{is_utf8}
use Rattle.serde_json.specs.Data.{Data, unsigned, number, string, array, object, no_members, member}
use Rattle.serde_json.specs.Read.{read}
use Rattle.serde_json.specs.View.{items_of}
use Rattle.rail_base.specs.declared.station.Station.{Station}
use Rattle.rail_base.specs.declared.plan.Command.{Command}
use Rattle.rail_base.specs.Names.{train_name}

-- a command as `["A", 3]`
abbrev pub command_value : Station → Command → Data
command_value d c = array (items_of (string (train_name d c.train) ∷ number (unsigned c.route.0) ∷ []))

-- a step as `[["A", 3], ["B", 1]]`
abbrev pub step_value : Station → List Command → Data
step_value d step = array (items_of (map (command_value d) step))

-- a plan as `{"steps": [[["A", 3], ["B", 1]], [["A", 2]]]}`
abbrev pub plan_value : Station → List (List Command) → Data
plan_value d plan = object (member (codes "steps") (array (items_of (map (step_value d) plan))) no_members)

-- the bytes are this plan of the design, in UTF-8 and as JSON
abbrev pub SpellsPlan : Station → List ℕ → List (List Command) → Type 0
SpellsPlan d bytes plan = (is_utf8 bytes ≡ true) × (read bytes ≡ Some (plan_value d plan))
