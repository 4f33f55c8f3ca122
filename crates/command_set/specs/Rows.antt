-- Commands by a row of routes for each train, and their places.
use Rattle.std.specs.Prelude.{◌≡◌, ℕ, ◌+◌, ◌-◌, ◌≤◌, List, [], map, filter, flat_map, length, Option, option_map}
use Rattle.rail_base.specs.declared.station.Station.{Station}
use Rattle.rail_base.specs.declared.station.TrainNo.{TrainNo}
use Rattle.rail_base.specs.declared.route.Route.{Route}
use Rattle.rail_base.specs.declared.route.RouteNo.{RouteNo}
use Rattle.rail_base.specs.declared.plan.Command.{Command}
use Rattle.rail_base.specs.Members.{In}
use Rattle.rail_base.specs.Numbering.{entry, one_to}
use Rattle.rail_base.specs.Stations.{train_of}
use Rattle.rail_spec.specs.Plans.{is_route, route_numbers}
use Rattle.live_clause_spec.specs.Live.{is_live_route}
use Rattle.command_set.specs.Blocks.{member_count}
use Rattle.command_set.specs.Commands.{AreRising, commands_in, first_place}

-- the train of a number
abbrev pub train_no : ℕ → TrainNo
train_no n = record { 0 = n }

-- ---- rows

-- for each train all routes
abbrev pub all_rows : Station → List Route → List (List RouteNo)
all_rows d routes = map (λ n. route_numbers routes) (one_to (length d.trains))

-- the live routes of a train
abbrev pub live_row : Station → List Route → TrainNo → List RouteNo
live_row d routes t = filter (is_live_route routes (train_of d t).visits) (route_numbers routes)

-- those of each train
abbrev pub live_rows : Station → List Route → List (List RouteNo)
live_rows d routes = map (λ n. live_row d routes (train_no n)) (one_to (length d.trains))

-- the rows are few, short and rising, and have no other routes than these
pub record AreRows (routes : ℕ) (rows : List (List RouteNo)) : Type 0 where
  pub at_most_128 : length rows ≤ 128
  pub at_most_2000 : routes ≤ 2000
  pub short : (t : ℕ) → length (entry [] rows t) ≤ 2000
  pub rising : (t : ℕ) → AreRising (entry [] rows t)
  pub within : (t : ℕ) (r : RouteNo) → In r (entry [] rows t) → (1 ≤ r.0) × (r.0 ≤ routes)

-- ---- commands

-- each train's commands with the routes of its row
abbrev pub commands_by_rows : List (List RouteNo) → List Command
commands_by_rows rows = flat_map (λ t. commands_in t (entry [] rows t)) (one_to (length rows))

-- for each route the place of a train's command, where so many commands stand before its own
abbrev pub places_in : ℕ → List RouteNo → ℕ → List (Option ℕ)
places_in routes row before =
    map (λ r. option_map (λ within. before + within) (first_place (is_route (record { 0 = r })) row)) (one_to routes)

-- the same for each train
abbrev pub places_by_rows : ℕ → List (List RouteNo) → List (List (Option ℕ))
places_by_rows routes rows =
    map (λ t. places_in routes (entry [] rows t) (member_count (entry [] rows) 1 (t - 1))) (one_to (length rows))

-- the commands of such rows, and their places
pub record IsSet (routes : ℕ) (rows : List (List RouteNo)) (cs : List Command) (places : List (List (Option ℕ)))
    : Type 0 where
  pub good : AreRows routes rows
  pub listed : cs ≡ commands_by_rows rows
  pub placed : places ≡ places_by_rows routes rows
