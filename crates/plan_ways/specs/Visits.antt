-- How many visits are made on routes in a row.
use Rattle.std.specs.Prelude.{ℕ, List, [], ◌∷◌}
use Rattle.rail_base.specs.declared.station.NodeNo.{NodeNo}
use Rattle.rail_base.specs.declared.route.Route.{Route}
use Rattle.train_ways.specs.Pairs.{made_behind}

-- how many visits are made on these routes or before, where so many are made at their start or before
abbrev pub made_along : List (List NodeNo) → List Route → ℕ → ℕ
made_along sets [] j = j
made_along sets (r ∷ rs) j = made_along sets rs (made_behind sets r j)
