-- The values of which a plan's text is made, whether or not it has the shape of a plan.
use Rattle.std.specs.Prelude.{ℕ, List, [], Option, option_and_then, unwrap_or}
use Rattle.rail_base.specs.Numbering.{entry}
use Rattle.serde_json.specs.Data.{Data, null}
use Rattle.rail_plan.specs.Reading.{values_of}
use Rattle.rail_plan.specs.Text.{Written, array_of, command_of, steps_at}

-- the steps of a text
abbrev pub steps_in : Data → List Data
steps_in v = unwrap_or (option_and_then array_of (steps_at v)) []

-- what stands in the step of this number, counted from 1
abbrev pub step_in : Data → ℕ → List Data
step_in v i = values_of (entry null (steps_in v) i)

-- the command of this number in it: the name of a train and the number of a route
abbrev pub written_in : Data → ℕ → ℕ → Option Written
written_in v i j = command_of (entry null (step_in v i) j)
