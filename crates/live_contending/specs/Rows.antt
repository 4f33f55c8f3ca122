-- For each train and each route, the train's routes that share a section with it.
use Rattle.std.specs.Prelude.{ℕ, ◌≡◌, ◌≤◌, Bool, List, [], map, filter, length}
use Rattle.rail_base.specs.declared.route.Route.{Route}
use Rattle.rail_base.specs.declared.route.RouteNo.{RouteNo}
use Rattle.rail_base.specs.declared.plan.Command.{Command}
use Rattle.rail_base.specs.Numbering.{entry}
use Rattle.rail_spec.specs.Plans.{route_at, route_numbers, routes_given, share}
use Rattle.command_set.specs.Rows.{train_no}
use Rattle.live_contending.specs.declared.rows.TrainRows.{TrainRows}

-- the two routes share a section
abbrev pub shares : List Route → RouteNo → RouteNo → Bool
shares routes r q = share (route_at routes r) (route_at routes q)

-- for each route, those of these that share a section with it
abbrev pub sharing_rows : List Route → List RouteNo → List (List RouteNo)
sharing_rows routes among = map (λ r. filter (shares routes r) among) (route_numbers routes)

-- how many trains have rows
abbrev pub train_count : TrainRows → ℕ
train_count s = length s.kinds.items

-- the rows of a train
abbrev pub table_at : TrainRows → ℕ → List (List RouteNo)
table_at s t = entry [] s.tables.items (entry 0 s.kinds.items t)

-- the row of a train and a route
abbrev pub row_at : TrainRows → ℕ → RouteNo → List RouteNo
row_at s t r = entry [] (table_at s t) r.0

-- no row is long
abbrev pub AreShort : TrainRows → Type 0
AreShort s = (t : ℕ) (r : RouteNo) → length (row_at s t r) ≤ 2000

-- so many trains have the rows of their routes among the commands
pub record AreRowsTo (routes : List Route) (cs : List Command) (n : ℕ) (s : TrainRows) : Type 0 where
  pub trains : train_count s ≡ n
  pub low : (t : ℕ) → 1 ≤ t → t ≤ n → 1 ≤ entry 0 s.kinds.items t
  pub high : (t : ℕ) → 1 ≤ t → t ≤ n → entry 0 s.kinds.items t ≤ length s.tables.items
  pub table : (t : ℕ) → 1 ≤ t → t ≤ n → table_at s t ≡ sharing_rows routes (routes_given (train_no t) cs)
