-- What the clause of a cone says, as literals of the base.
use Rattle.std.specs.Prelude.{ℕ, Bool, true, false, ◌&&◌, if◌then◌else◌, List, map, flat_map, Option, None, Some}
use Rattle.rail_base.specs.declared.plan.Command.{Command}
use Rattle.rail_base.specs.declared.route.Route.{Route}
use Rattle.rail_base.specs.declared.route.RouteNo.{RouteNo}
use Rattle.rail_base.specs.declared.station.Station.{Station}
use Rattle.rail_base.specs.declared.station.TrainNo.{TrainNo}
use Rattle.rail_base.specs.Routes.{route_at}
use Rattle.rail_spec.specs.Plans.{routes_given}
use Rattle.sat_clause.specs.declared.lit.Lit.{Lit}
use Rattle.clause_spec.specs.Variables.{Given}
use Rattle.live_clause_spec.specs.Variables.{live_number}
use Rattle.command_set.specs.Commands.{is_among}
use Rattle.cone_spec.specs.Cones.{has_route}
use Rattle.cone_spec.specs.Clauses.{Literal, before_literals, goes_further, used_literals}
use Rattle.cone_clause.specs.declared.numbered.NumberedCone.{NumberedCone}
use Rattle.cone_clause.specs.Numbered.{left_lit}
use Rattle.cone_clause.specs.Places.{Adds, ArePlacesOfPairs, AreSaid, IsPairPlace}
use Rattle.cone_clause.specs.Places.{IsPlaceBefore, IsPlaceBeforeAny, IsPlaceBeforeFree}

-- the sign of a route: negated where the path has it, not negated where a closed path goes on to it, and else none
abbrev pub used_sign : List Route → List RouteNo → Bool → RouteNo → Option Bool
used_sign routes path closed r =
    if has_route path r then Some true
    else if closed && goes_further (map (route_at routes) path) (route_at routes r) then Some false
    else None

module _ (c : NumberedCone) where
  -- the station
  abbrev pub station_of : Station
  station_of = c.contention.interlocking.now.design.station

  -- the routes of the interlocking
  abbrev pub routes_in : List Route
  routes_in = c.contention.interlocking.now.routes

  -- the commands that the base speaks of
  abbrev pub commands : List Command
  commands = c.contention.pairs.now.commands

  -- the pairs of them that contend
  abbrev pub pairs : List (Command × Command)
  pairs = c.contention.pairs.now.pairs

  -- the number of the variable that a command is given by the last step
  abbrev pub given_number : Command → ℕ
  given_number e = live_number (is_among commands) station_of routes_in c.steps.count (Given e c.steps.count)

  -- literals of the cone's clause, as those of the base
  abbrev pub numbered : List Literal → List Lit
  numbered ls = map (left_lit (is_among commands) station_of routes_in c.steps.count) ls

  -- what the clause says of a command
  abbrev pub used : Command → List Literal
  used = used_literals station_of routes_in c.cone.now

  -- what it says of the order of two commands
  abbrev pub before : Command → Command → List Literal
  before = before_literals station_of routes_in c.cone.now

  -- what it says of the commands of one train
  abbrev pub said_of_train : TrainNo → List Lit
  said_of_train t = numbered (flat_map used (map (λ r. record { train = t; route = r }) (routes_given t commands)))

  -- what it says of all commands
  abbrev pub said_of_commands : List Lit
  said_of_commands = numbered (flat_map used commands)

  -- what it says of the order of all commands
  abbrev pub said_of_pairs : List Lit
  said_of_pairs = numbered (flat_map (λ p. before p.0 p.1) pairs)

  -- ---- the places of the pairs of which it says something

  -- those of the pairs with this second command are added
  abbrev pub AddsBefore : Command → List ℕ → List ℕ → Type 0
  AddsBefore e = Adds (IsPlaceBefore pairs e)

  -- those of the pairs whose second command is a free one of the train are added
  abbrev pub AddsFree : TrainNo → List ℕ → List ℕ → Type 0
  AddsFree t = Adds (IsPlaceBeforeFree pairs c.cone.now t)

  -- those of the pairs whose second command is free are added
  abbrev pub AddsAllFree : List ℕ → List ℕ → Type 0
  AddsAllFree = Adds (IsPlaceBeforeAny pairs c.cone.now)

  -- those of the listed pairs are added
  abbrev pub AddsPairs : List ℕ → List ℕ → Type 0
  AddsPairs = Adds (IsPairPlace pairs c.cone.now)

  -- these are all of them, in order
  abbrev pub ArePlaces : List ℕ → Type 0
  ArePlaces = AreSaid pairs c.cone.now

  -- these are all places of listed pairs, in order
  abbrev pub ArePairPlaces : List ℕ → Type 0
  ArePairPlaces = ArePlacesOfPairs pairs c.cone.now
