-- What a certificate takes for granted of a plan, and its clause: that some of it is not so.
use Rattle.std.specs.Prelude.{Bool, true, false, not, ◌&&◌, ◌||◌, if◌then◌else◌, List, [], ◌∷◌, ◌++◌, flat_map, map, Option, None, Some}
use Rattle.std.specs.List.{list_any}
use Rattle.rail_base.specs.declared.station.Station.{Station}
use Rattle.rail_base.specs.declared.route.Route.{Route}
use Rattle.rail_base.specs.declared.route.RouteNo.{RouteNo}
use Rattle.rail_base.specs.declared.plan.Command.{Command}
use Rattle.rail_base.specs.Stations.{train_of, first_visit}
use Rattle.rail_spec.specs.Plans.{route_at, is_train, starts_in, contend, all_commands}
use Rattle.cone_spec.specs.Cones as cone
use Rattle.cone_spec.specs.Cones.{has_route, is_free, has_pair, named}
use Rattle.cone_spec.specs.Clauses.{Used, Before, Literal, is_closed, goes_further}
use Rattle.bound_spec.specs.declared.Origin.{Origin}
use Rattle.bound_spec.specs.declared.Origin.TheVariants as origin
use Rattle.bound_spec.specs.declared.Place.{Place}
use Rattle.bound_spec.specs.declared.Leg.{Leg}
use Rattle.bound_spec.specs.declared.Bound.{Bound}
use Rattle.bound_spec.specs.Certificates.{VisitOf, routes_of_place, named_at, kept_out, is_named_place, first_of_leg, last_of_leg, visit_from, cone_of}

-- some two legs next to each other are so
abbrev pub any_next : (Leg → Leg → Bool) → List Leg → Bool
any_next test [] = false
any_next test (l ∷ []) = false
any_next test (l ∷ m ∷ ls) = test l m || any_next test (m ∷ ls)

-- the command is one of the train's routes of these at a place of the leg
abbrev pub stands_in : (Place → List RouteNo) → Command → Leg → Bool
stands_in routes_at c l = is_train l.train c.train && list_any (λ p. has_route (routes_at p) c.route) l.places

-- the command gives the leg's train one of the routes of a place
abbrev pub is_at : Leg → Place → Command → Bool
is_at l p c = is_train l.train c.train && has_route (routes_of_place p) c.route

-- the places at which the two legs meet each name their route
abbrev pub meet_named : Leg → Leg → Bool
meet_named l m = is_named_place (last_of_leg l) && is_named_place (first_of_leg m)

-- the first command gives the one leg's train a route of its last place, and the second the other's one of its first
abbrev pub are_where_they_meet : Command → Command → Leg → Leg → Bool
are_where_they_meet e c l m = is_at l (last_of_leg l) e && is_at m (first_of_leg m) c

-- the last command of the one leg and the first of the other, each named by its place
abbrev pub joins : Command → Command → Leg → Leg → Bool
joins e c l m = meet_named l m && are_where_they_meet e c l m

-- the same where not both are named by their places
abbrev pub may_join : Command → Command → Leg → Leg → Bool
may_join e c l m = not (meet_named l m) && are_where_they_meet e c l m

module _ (d : Station) (routes : List Route) (b : Bound) where
  -- the command is one with which the train of that visit can begin, where it is made in the first tick
  abbrev pub begins_at_once : Origin → Option VisitOf → Command → Bool
  begins_at_once origin.FirstTick (Some v) c =
      is_train v.train c.train && starts_in (first_visit (train_of d c.train)) (route_at routes c.route).start
  begins_at_once origin.FirstTick None c = false
  begins_at_once origin.Visit v c = false
  begins_at_once origin.Start v c = false
  begins_at_once (origin.Cone k cone) v c = false

  -- ---- what is taken for granted

  -- that the command is used
  abbrev pub is_named : Command → Bool
  is_named c = list_any (stands_in named_at c) b.legs || cone.is_named (cone_of b) c

  -- the command's train goes no further than its path in the cone, and the command's route would go on there
  abbrev pub is_past_cone : Command → Bool
  is_past_cone c = not (cone.is_named (cone_of b) c) && is_closed d routes (cone_of b) c.train
      && goes_further (map (route_at routes) (named (cone_of b) c.train).path) (route_at routes c.route)

  -- that it is not
  abbrev pub is_kept_out : Command → Bool
  is_kept_out c = list_any (stands_in kept_out c) b.legs || is_past_cone c

  -- that the first is given before the second
  abbrev pub is_before : Command → Command → Bool
  is_before e c = any_next (joins e c) b.legs || has_pair (cone_of b) e c

  -- that it is not
  abbrev pub is_kept_behind : Command → Command → Bool
  is_kept_behind e c = any_next (may_join c e) b.legs
      || (begins_at_once b.origin (visit_from d b.requirement) c && contend routes e c)
      || (not (has_pair (cone_of b) e c) && is_free (cone_of b) c && contend routes e c)

  -- ---- the clause

  -- what the clause says of one command
  abbrev pub used_literals : Command → List Literal
  used_literals c = (if is_named c then record { fact = Used c; negated = true } ∷ [] else [])
      ++ (if is_kept_out c then record { fact = Used c; negated = false } ∷ [] else [])

  -- what it says of the order of two commands
  abbrev pub before_literals : Command → Command → List Literal
  before_literals e c = (if is_before e c then record { fact = Before e c; negated = true } ∷ [] else [])
      ++ (if is_kept_behind e c then record { fact = Before e c; negated = false } ∷ [] else [])

  -- the literals in the order of their variables; no plan that makes all of them false meets the design
  abbrev pub clause_of_bound : List Literal
  clause_of_bound = flat_map used_literals (all_commands d routes)
      ++ flat_map (λ e. flat_map (before_literals e) (all_commands d routes)) (all_commands d routes)
