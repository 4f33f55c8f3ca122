-- The lists of a design, by the numbers of trains, visits and signals.
use Rattle.std.specs.Prelude.{ℕ, List, [], map, Vec}
use Rattle.std.specs.declared.alloc.Global.{Global}
use Rattle.rail_base.specs.declared.station.TrainNo.{TrainNo}
use Rattle.rail_base.specs.declared.route.RouteNo.{RouteNo}
use Rattle.rail_base.specs.declared.route.Start.{Start}
use Rattle.rail_base.specs.declared.route.Start.TheVariants as start
use Rattle.rail_base.specs.declared.route.Finish.{Finish}
use Rattle.rail_base.specs.declared.route.Finish.TheVariants as finish
use Rattle.rail_base.specs.Numbering.{entry}
use Rattle.bound_chains.specs.declared.tables.Tables.{Tables}

-- the list of this number, counted from 1, or none
abbrev pub list_of : {X : Type 0} → List (Vec X Global) → ℕ → List X
list_of lists n = entry [] (map (λ list. list.items) lists) n

-- for each visit of a train the routes on which it can be made
abbrev pub lists_of_visits : Tables → TrainNo → List (Vec RouteNo Global)
lists_of_visits tables t = list_of tables.visits.items t.0

-- the routes on which a visit can be made
abbrev pub routes_of_visit : Tables → TrainNo → ℕ → List RouteNo
routes_of_visit tables t n = list_of (lists_of_visits tables t) n

-- the routes that end where one starts
abbrev pub routes_before : Tables → Start → List RouteNo
routes_before tables (start.Signal s) = list_of tables.ending.items s.0
routes_before tables (start.Boundary n) = []

-- the routes that start where one ends
abbrev pub routes_after : Tables → Finish → List RouteNo
routes_after tables (finish.Signal s) = list_of tables.starting.items s.0
routes_after tables _ = []
