-- The commands of a plan's text whose train and route are there.
use Rattle.std.specs.Prelude.{List, length}
use Rattle.rail_base.specs.declared.plan.Command.{Command}
use Rattle.rail_base.specs.declared.route.Route.{Route}
use Rattle.rail_base.specs.declared.station.Station.{Station}
use Rattle.serde_json.specs.Data.{Data}
use Rattle.rail_plan.specs.Reading.{read_steps, train_names}
use Rattle.plan_values.specs.Values.{steps_in}

-- step by step
abbrev pub plan_in : Station → List Route → Data → List (List Command)
plan_in d routes v = read_steps (train_names d) (length routes) (steps_in v)
