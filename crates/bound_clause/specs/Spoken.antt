-- What a certificate says, as literals of the base.
use Rattle.std.specs.Prelude.{◌≡◌, Bool, List, [], ◌∷◌, map, Option}
use Rattle.rail_base.specs.declared.plan.Command.{Command}
use Rattle.rail_base.specs.declared.route.Route.{Route}
use Rattle.rail_base.specs.declared.route.RouteNo.{RouteNo}
use Rattle.rail_base.specs.declared.station.Station.{Station}
use Rattle.rail_base.specs.Members.{In}
use Rattle.rail_base.specs.Routes.{route_at}
use Rattle.rail_base.specs.Stations.{first_visit, train_of}
use Rattle.rail_spec.specs.Plans.{starts_in}
use Rattle.sat_clause.specs.declared.lit.Lit.{Lit}
use Rattle.clause_spec.specs.Variables.{pairs}
use Rattle.cone_spec.specs.Clauses.{Literal, Fact, clause_of_cone}
use Rattle.cone_clause.specs.Contentions.{left_over}
use Rattle.cone_clause.specs.Numbered.{base_literal}
use Rattle.bound_spec.specs.declared.Leg.{Leg}
use Rattle.bound_spec.specs.Certificates.{routes_of_place, first_of_leg, last_of_leg, cone_of}
use Rattle.bound_clause.specs.declared.numbered.NumberedBound.{NumberedBound}
use Rattle.bound_clause.specs.declared.remainder.Remainder.{Remainder}
use Rattle.bound_clause.specs.Left.{gathered, together}
use Rattle.bound_clause.specs.Said.{said_literals, said_of_origin}

-- the command stands in a pair with each with which the leg may begin
abbrev pub ContendWithAll : List (Command × Command) → Command → Leg → Type 0
ContendWithAll ps e m = (q : RouteNo) → In q (routes_of_place (first_of_leg m))
    → In (e, record { train = m.train; route = q }) ps

-- each command with which the one leg may end stands in a pair with each with which the other may begin
abbrev pub ContendAll : List (Command × Command) → Leg → Leg → Type 0
ContendAll ps l m = (r : RouteNo) → In r (routes_of_place (last_of_leg l))
    → ContendWithAll ps (record { train = l.train; route = r }) m

module _ (c : NumberedBound) where
  -- the station
  abbrev pub station_of : Station
  station_of = c.contention.interlocking.now.design.station

  -- the routes of the interlocking
  abbrev pub routes_in : List Route
  routes_in = c.contention.interlocking.now.routes

  -- what is said of the station and its routes
  abbrev pub of_design : {A : Type 0} → (Station → List Route → A) → A
  of_design word = word station_of routes_in

  -- the pairs of the station's commands that contend
  abbrev pub pairs_in : List (Command × Command)
  pairs_in = pairs station_of routes_in

  -- what is left of literals of the certificate, over the numbers of the base
  abbrev pub left : List Literal → Option (List Lit)
  left ls = left_over c.contention c.steps.count (map (base_literal c.steps.count) ls)

  -- the train of the command begins at its first visit with it
  abbrev pub begins : Command → Bool
  begins command =
      starts_in (first_visit (train_of station_of command.train)) (route_at routes_in command.route).start

  -- what is left of these literals is gathered too
  abbrev pub Adds : Remainder → Remainder → List Literal → Type 0
  Adds before after literals = gathered after ≡ together (gathered before) (left literals)

  -- that a fact is so, or that it is not, is gathered too
  abbrev pub AddsFact : Remainder → Remainder → Fact → Bool → Type 0
  AddsFact before after fact negated = Adds before after (record { fact = fact; negated = negated } ∷ [])

  -- what is said of the bound's cone
  abbrev pub cone_literals : List Literal
  cone_literals = of_design clause_of_cone (cone_of c.bound.now)

  -- what is said of its origin
  abbrev pub origin_literals : List Literal
  origin_literals = of_design said_of_origin c.bound.now

  -- all that is said
  abbrev pub all_literals : List Literal
  all_literals = of_design said_literals c.bound.now
