-- What a certificate names: its places, its legs as rides, and the visits of its requirement.
use Rattle.std.specs.Prelude.{ℕ, zero, suc, ◌+◌, Bool, true, false, ℤ, List, [], ◌∷◌, map, nat_abs, if◌then◌else◌, Option, None, Some}
use Rattle.rail_base.specs.declared.station.Station.{Station}
use Rattle.rail_base.specs.declared.station.NodeNo.{NodeNo}
use Rattle.rail_base.specs.declared.station.TrainNo.{TrainNo}
use Rattle.rail_base.specs.declared.route.Route.{Route}
use Rattle.rail_base.specs.declared.route.RouteNo.{RouteNo}
use Rattle.rail_base.specs.declared.plan.Violation.{Violation}
use Rattle.rail_base.specs.declared.plan.Violation.TheVariants as violation
use Rattle.rail_base.specs.Numbering.{entry, after_first}
use Rattle.rail_base.specs.Stations.{train_of, within_of, order_of}
use Rattle.rail_spec.specs.Plans.{route_at, length_mm, has_node}
use Rattle.cone_spec.specs.declared.Cone.{Cone}
use Rattle.bound_spec.specs.declared.Requirement.{Requirement}
use Rattle.bound_spec.specs.declared.Requirement.TheVariants as requirement
use Rattle.bound_spec.specs.declared.Origin.{Origin}
use Rattle.bound_spec.specs.declared.Origin.TheVariants as origin
use Rattle.bound_spec.specs.declared.Place.{Place}
use Rattle.bound_spec.specs.declared.Place.TheVariants as place
use Rattle.bound_spec.specs.declared.Leg.{Leg}
use Rattle.bound_spec.specs.declared.Bound.{Bound}
use Rattle.bound_spec.specs.Rides.{Ride}

-- ---- places and legs

-- the routes of a place: the train uses one of them
abbrev pub routes_of_place : Place → List RouteNo
routes_of_place (place.Named r) = r ∷ []
routes_of_place (place.Among rs without) = rs

-- the route that a place names
abbrev pub named_at : Place → List RouteNo
named_at (place.Named r) = r ∷ []
named_at (place.Among rs without) = []

-- the routes that the train does not use
abbrev pub kept_out : Place → List RouteNo
kept_out (place.Named r) = []
kept_out (place.Among rs without) = without

-- the place names its route
abbrev pub is_named_place : Place → Bool
is_named_place (place.Named r) = true
is_named_place (place.Among rs without) = false

-- a place without routes
abbrev pub no_place : Place
no_place = place.Among [] []

-- the first of some places
abbrev pub first_of_places : List Place → Place
first_of_places [] = no_place
first_of_places (p ∷ ps) = p

-- the last of some places
abbrev pub last_of_places : List Place → Place
last_of_places [] = no_place
last_of_places (p ∷ []) = p
last_of_places (p ∷ q ∷ ps) = last_of_places (q ∷ ps)

-- the first place of a leg
abbrev pub first_of_leg : Leg → Place
first_of_leg l = first_of_places l.places

-- the last place of a leg
abbrev pub last_of_leg : Leg → Place
last_of_leg l = last_of_places l.places

-- the leg as a ride
abbrev pub ride_of : List Route → Leg → Ride
ride_of routes l = record { train = l.train; places = map (λ p. map (route_at routes) (routes_of_place p)) l.places }

-- ---- visits on a route

-- how far from a route's start the first of these nodes is in the set, or 0 where none is
abbrev pub first_in : List NodeNo → List (NodeNo × ℤ) → ℕ
first_in set [] = 0
first_in set (p ∷ ps) = if has_node set p.0 then nat_abs p.1 else first_in set ps

-- the nodes of a train's visit
abbrev pub nodes_of_visit : Station → TrainNo → ℕ → List NodeNo
nodes_of_visit d t k = entry [] (train_of d t).visits k

-- where the visit of this number can be made on a route at the earliest: the first at its start
abbrev pub visit_offset : Station → TrainNo → ℕ → Route → ℕ
visit_offset d t zero r = 0
visit_offset d t (suc zero) r = 0
visit_offset d t (suc (suc k)) r = first_in (nodes_of_visit d t (suc (suc k))) (after_first r.nodes)

-- ---- the requirement

-- a visit of a train
pub record VisitOf : Type 0 where
  pub train : TrainNo
  pub number : ℕ

-- the visit from which the ticks of a within or an order are counted
abbrev pub visit_from : Station → Requirement → Option VisitOf
visit_from d (requirement.Within w) =
    let within = within_of d w in Some (record { train = within.from_train; number = within.from_visit })
visit_from d (requirement.Order o) =
    let order = order_of d o in Some (record { train = order.then_train; number = order.then_visit })
visit_from d (requirement.Visit t k) = None
visit_from d (requirement.Grant c) = None

-- the visit at which the ticks end
abbrev pub visit_to : Station → Requirement → Option VisitOf
visit_to d (requirement.Within w) =
    let within = within_of d w in Some (record { train = within.to_train; number = within.to_visit })
visit_to d (requirement.Order o) =
    let order = order_of d o in Some (record { train = order.first_train; number = order.first_visit })
visit_to d (requirement.Visit t k) = Some (record { train = t; number = k })
visit_to d (requirement.Grant c) = None

-- the train of the last leg
abbrev pub train_to : Station → Requirement → TrainNo
train_to d (requirement.Within w) = (within_of d w).to_train
train_to d (requirement.Order o) = (order_of d o).first_train
train_to d (requirement.Visit t k) = t
train_to d (requirement.Grant c) = c.train

-- where on a walk's last route a visit can be made at the earliest, in mm from the walk's start
abbrev pub target : Station → VisitOf → List Route → ℕ
target d v [] = 0
target d v (r ∷ []) = visit_offset d v.train v.number r
target d v (r ∷ s ∷ rs) = length_mm r + target d v (s ∷ rs)

-- where on a walk's first route a visit is made at the latest
abbrev pub visit_place : Station → VisitOf → List Route → ℕ
visit_place d v [] = 0
visit_place d v (r ∷ rs) = visit_offset d v.train v.number r

-- ---- the cone of an origin

-- the violation that a within or an order not kept is
abbrev pub violation_of : Requirement → Violation
violation_of (requirement.Within w) = violation.Within w
violation_of (requirement.Order o) = violation.Order o
violation_of (requirement.Visit t k) = violation.Visit t k
violation_of (requirement.Grant c) = violation.Grant c.train 1

-- the cone that the origin names, or one of no train
abbrev pub cone_at : Requirement → Origin → Cone
cone_at q (origin.Cone k c) = c
cone_at q origin.Visit = record { trains = []; pairs = []; violation = violation_of q }
cone_at q origin.Start = record { trains = []; pairs = []; violation = violation_of q }
cone_at q origin.FirstTick = record { trains = []; pairs = []; violation = violation_of q }

-- the cone of a certificate
abbrev pub cone_of : Bound → Cone
cone_of b = cone_at b.requirement b.origin
