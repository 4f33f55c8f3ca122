-- The ticks of legs, from the grant of the first command or from a visit on.
use Rattle.std.specs.Prelude.{ℕ, ◌+◌, List, [], ◌∷◌, map, Option, None, Some}
use Rattle.rail_base.specs.declared.station.Station.{Station}
use Rattle.rail_base.specs.declared.station.TrainNo.{TrainNo}
use Rattle.rail_base.specs.declared.route.Route.{Route}
use Rattle.rail_base.specs.declared.route.RouteNo.{RouteNo}
use Rattle.rail_base.specs.Routes.{route_at}
use Rattle.bound_spec.specs.declared.Leg.{Leg}
use Rattle.bound_spec.specs.Certificates.{VisitOf, ride_of, target, visit_place}
use Rattle.bound_spec.specs.Rides.{least_route, on_ticks, release_place, run_ticks}
use Rattle.bound_spec.specs.Walks.{least_walk, walks}
use Rattle.bound_ticks.specs.Walks.{first_routes}

module _ (d : Station) (routes : List Route) (h : ℕ) where
  -- the least ticks to a place of a walk, from the grant of its first route or from the visit
  abbrev pub ticks_on : Option VisitOf → TrainNo → List Route → ℕ → ℕ
  ticks_on None t rs y = run_ticks d routes h t rs y
  ticks_on (Some v) t rs y = on_ticks d routes h t rs (visit_place d v rs) y

  -- to where the walk has released what one of these routes waits for
  abbrev pub to_release : Option VisitOf → TrainNo → List RouteNo → List Route → ℕ
  to_release from t next rs =
      least_route (λ q. ticks_on from t rs (release_place d t rs q)) h (map (route_at routes) next)

  -- the same over all walks of a leg
  abbrev pub leg_to_release : Option VisitOf → Leg → List RouteNo → ℕ
  leg_to_release from l next = least_walk (to_release from l.train next) h (walks (ride_of routes l).places)

  -- to where a visit can be made
  abbrev pub to_visit : Option VisitOf → TrainNo → VisitOf → List Route → ℕ
  to_visit from t v rs = ticks_on from t rs (target d v rs)

  -- the same over all walks of a leg
  abbrev pub leg_to_visit : Option VisitOf → Leg → VisitOf → ℕ
  leg_to_visit from l v = least_walk (to_visit from l.train v) h (walks (ride_of routes l).places)

  -- the ticks of the last leg: to a visit, or none where they end with the grant of its first command
  abbrev pub end_ticks : Option VisitOf → Option VisitOf → Leg → ℕ
  end_ticks from None l = 0
  end_ticks from (Some v) l = leg_to_visit from l v

  -- the ticks of legs that wait for each other, to a visit or to the grant of the last leg's first command
  abbrev pub chain_of : Option VisitOf → Option VisitOf → List Leg → ℕ
  chain_of from to [] = 0
  chain_of from to (l ∷ []) = end_ticks from to l
  chain_of from to (l ∷ m ∷ ls) = leg_to_release from l (first_routes (m ∷ ls)) + (1 + chain_of None to (m ∷ ls))
