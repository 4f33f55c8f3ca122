-- What the parts of a certificate say. Together they say what its clause says; one literal may be said twice.
use Rattle.std.specs.Prelude.{Bool, true, false, if◌then◌else◌, List, [], ◌∷◌, ◌++◌, map, filter, flat_map}
use Rattle.std.specs.Prelude.{Option, None, Some}
use Rattle.rail_base.specs.declared.station.Station.{Station}
use Rattle.rail_base.specs.declared.station.TrainNo.{TrainNo}
use Rattle.rail_base.specs.declared.route.Route.{Route}
use Rattle.rail_base.specs.declared.route.RouteNo.{RouteNo}
use Rattle.rail_base.specs.declared.plan.Command.{Command}
use Rattle.rail_base.specs.Stations.{train_of, first_visit}
use Rattle.rail_spec.specs.Plans.{route_at, is_command, starts_in, commands_of}
use Rattle.clause_spec.specs.Variables.{pairs}
use Rattle.cone_spec.specs.Clauses.{Used, Before, Literal, clause_of_cone}
use Rattle.bound_spec.specs.declared.Origin.{Origin}
use Rattle.bound_spec.specs.declared.Origin.TheVariants as origin
use Rattle.bound_spec.specs.declared.Place.{Place}
use Rattle.bound_spec.specs.declared.Place.TheVariants as place
use Rattle.bound_spec.specs.declared.Leg.{Leg}
use Rattle.bound_spec.specs.declared.Bound.{Bound}
use Rattle.bound_spec.specs.Certificates.{VisitOf, routes_of_place, first_of_leg, last_of_leg, visit_from, cone_of}
use Rattle.bound_spec.specs.Clauses.{meet_named}

-- ---- the places of legs

-- that the train uses the route
abbrev pub used_by : TrainNo → RouteNo → Literal
used_by t r = record { fact = Used (record { train = t; route = r }); negated = false }

-- that it does not
abbrev pub not_used_by : TrainNo → RouteNo → Literal
not_used_by t r = record { fact = Used (record { train = t; route = r }); negated = true }

-- that a named route is not used, or that one of those kept out is
abbrev pub said_of_place : TrainNo → Place → List Literal
said_of_place t (place.Named r) = not_used_by t r ∷ []
said_of_place t (place.Among rs without) = map (used_by t) without

-- what is said of the places of a leg
abbrev pub said_of_leg : Leg → List Literal
said_of_leg l = flat_map (said_of_place l.train) l.places

-- what is said of the places of all legs
abbrev pub said_of_legs : Bound → List Literal
said_of_legs b = flat_map said_of_leg b.legs

-- ---- where two legs meet

-- where both are named: that the last command e of a leg is not before the first command c of the next;
-- else: that c is before e
abbrev pub said_of_pair : Bool → Command → Command → Literal
said_of_pair true e c = record { fact = Before e c; negated = true }
said_of_pair false e c = record { fact = Before c e; negated = false }

-- what is said of one last command and each with which the next leg may begin
abbrev pub said_after : Bool → Command → Leg → List Literal
said_after named e m =
    map (λ q. said_of_pair named e (record { train = m.train; route = q })) (routes_of_place (first_of_leg m))

-- what is said of two legs next to each other
abbrev pub said_between : Leg → Leg → List Literal
said_between l m =
    flat_map (λ r. said_after (meet_named l m) (record { train = l.train; route = r }) m)
    (routes_of_place (last_of_leg l))

-- what is said of each two legs next to each other
abbrev pub said_of_meetings : List Leg → List Literal
said_of_meetings [] = []
said_of_meetings (l ∷ []) = []
said_of_meetings (l ∷ m ∷ ls) = said_between l m ++ said_of_meetings (m ∷ ls)

-- ---- in the first tick

-- that some command that contends with this one is given before it
abbrev pub said_before : List (Command × Command) → Command → List Literal
said_before ps c = map (λ p. record { fact = Before p.1 c; negated = false }) (filter (λ p. is_command p.0 c) ps)

module _ (d : Station) (routes : List Route) where
  -- what is said of a command, where its train can begin with it
  abbrev pub said_of_start : Command → List Literal
  said_of_start c =
      if starts_in (first_visit (train_of d c.train)) (route_at routes c.route).start
      then said_before (pairs d routes) c else []

  -- what is said of the commands of a train that makes its first visit in the first tick
  abbrev pub said_of_starts : TrainNo → List Literal
  said_of_starts t = flat_map said_of_start (commands_of routes t)

  -- what is said by an origin
  abbrev pub said_at : Origin → Option VisitOf → List Literal
  said_at origin.FirstTick (Some v) = said_of_starts v.train
  said_at origin.FirstTick None = []
  said_at origin.Visit v = []
  said_at origin.Start v = []
  said_at (origin.Cone k cone) v = []

  -- what is said by the certificate's origin
  abbrev pub said_of_origin : Bound → List Literal
  said_of_origin b = said_at b.origin (visit_from d b.requirement)

  -- all that is said
  abbrev pub said_literals : Bound → List Literal
  said_literals b = clause_of_cone d routes (cone_of b) ++ said_of_legs b ++ said_of_meetings b.legs ++ said_of_origin b
