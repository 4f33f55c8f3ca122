-- Which train or which route of a command is not there.
use Rattle.std.specs.Prelude.{ℕ, List, [], ◌∷◌, ◌++◌, codes, decimal, length}
use Rattle.std.specs.Prelude.{Option, None, Some, is_none, if◌then◌else◌}
use Rattle.design_table.specs.Forms.{is_name_text}
use Rattle.rail_base.specs.declared.route.Route.{Route}
use Rattle.rail_base.specs.declared.station.Station.{Station}
use Rattle.rail_plan.specs.Reading.{train_named, train_names}
use Rattle.rail_plan.specs.Text.{Written}

-- a name as it is written, where it has the form of a name
abbrev pub train_line : List ℕ → List ℕ
train_line name =
    if is_name_text name then codes "there is no train " ++ name ++ codes "\n"
    else codes "there is no train of this name\n"

-- `there is no route 23: this design has 22 routes, numbered from 1`
abbrev pub route_line : ℕ → ℕ → List ℕ
route_line many n =
    codes "there is no route " ++ decimal n ++ codes ": this design has " ++ decimal many
    ++ codes " routes, numbered from 1\n"

-- the train of a command, where it is not there; else its route
abbrev pub unknown_line : Station → List Route → Written → List ℕ
unknown_line d routes w =
    if is_none (train_named (train_names d) w.0) then train_line w.0 else route_line (length routes) w.1

abbrev pub unknown_lines : Station → List Route → Option Written → List (List ℕ)
unknown_lines d routes None = []
unknown_lines d routes (Some w) = unknown_line d routes w ∷ []
