-- The walks of a leg, by the numbers of their routes.
use Rattle.std.specs.Prelude.{◌≡◌, ℕ, ◌≤◌, Bool, List, [], ◌∷◌, All, map, filter, flat_map, length}
use Rattle.rail_base.specs.declared.route.Route.{Route}
use Rattle.rail_base.specs.declared.route.RouteNo.{RouteNo}
use Rattle.rail_base.specs.Routes.{IsRoute, route_at}
use Rattle.rail_base.specs.Stations.{IsTrain}
use Rattle.rail_course.specs.Tracks.{routes_at}
use Rattle.interlocking.specs.declared.railway.Interlocking.{Interlocking}
use Rattle.bound_spec.specs.declared.Leg.{Leg}
use Rattle.bound_spec.specs.declared.Place.{Place}
use Rattle.bound_spec.specs.Certificates.{first_of_leg, routes_of_place}
use Rattle.bound_spec.specs.Walks.{goes_before}

module _ (routes : List Route) where
  -- the route may stand before the walk
  abbrev pub precedes_walk : RouteNo → List RouteNo → Bool
  precedes_walk r walk = goes_before (route_at routes r) (routes_at routes walk)

  -- the walks that the route makes longer
  abbrev pub longer_by : List (List RouteNo) → RouteNo → List (List RouteNo)
  longer_by walks r = map (λ walk. r ∷ walk) (filter (precedes_walk r) walks)

  -- the walks over these places
  abbrev pub walks_by_number : List Place → List (List RouteNo)
  walks_by_number [] = [] ∷ []
  walks_by_number (p ∷ ps) = flat_map (longer_by (walks_by_number ps)) (routes_of_place p)

  -- the place names routes
  abbrev pub IsPlaceOf : Place → Type 0
  IsPlaceOf p = All (IsRoute routes) (routes_of_place p)

  -- a walk of that length names routes
  pub record IsWalk (n : ℕ) (walk : List RouteNo) : Type 0 where
    pub named : All (IsRoute routes) walk
    pub long : length walk ≡ n

-- the leg is of a train, and its few places name routes
pub record IsLeg (i : Interlocking) (l : Leg) : Type 0 where
  pub train : IsTrain i.design.station l.train
  pub places : All (IsPlaceOf i.routes) l.places
  pub at_most_64 : length l.places ≤ 64

-- the routes of the first place of the first leg
abbrev pub first_routes : List Leg → List RouteNo
first_routes [] = []
first_routes (l ∷ ls) = routes_of_place (first_of_leg l)
