-- The least of some numbers, one at a time.
use Rattle.std.proofs.Common.{◌≡◌, ℕ, ◌+◌, ◌≤◌, ◌<◌, min, List, [], ◌∷◌, map, drop, get_or, length, Option, sym, ap, ◌∙◌, arith}
use Rattle.std.proofs.lemmas.List.{drop_more}
use Rattle.std.proofs.Math.ListN.{drop_of_length-le}
use Rattle.rail_base.specs.declared.station.TrainNo.{TrainNo}
use Rattle.rail_base.specs.declared.route.Route.{Route}
use Rattle.rail_base.specs.declared.route.RouteNo.{RouteNo}
use Rattle.interlocking.specs.declared.railway.Interlocking.{Interlocking}
use Rattle.rail_course.specs.Tracks.{routes_at}
use Rattle.bound_spec.specs.Certificates.{VisitOf, ride_of}
use Rattle.bound_spec.specs.declared.Leg.{Leg}
use Rattle.bound_spec.specs.Rides.{least_route, release_place}
use Rattle.bound_spec.specs.Walks.{least_walk, walks}
use Rattle.bound_ticks.specs.Walks.{walks_by_number}
use Rattle.bound_ticks.proofs.Longer.{numbered}
use Rattle.bound_ticks.specs.Chains.{ticks_on}

-- what it takes to where a walk has released what a route waits for
abbrev pub release_of : Interlocking → ℕ → Option VisitOf → TrainNo → List RouteNo → Route → ℕ
release_of i h from t walk q = let rs = routes_at i.routes walk in ticks_on i.design.station i.routes h from t rs (release_place i.design.station t rs q)

pub sooner_route : (f : Route → ℕ) (n m : ℕ) (q : Route) (qs : List Route) → m ≡ min n (f q) → least_route f n (q ∷ qs) ≡ least_route f m qs
sooner_route f n m q [] h = omega arith
sooner_route f n m q (r ∷ qs) h = let g = sooner_route f n m q qs h in omega arith

pub sooner_walk : (f : List Route → ℕ) (n m : ℕ) (w : List Route) (ws : List (List Route)) → m ≡ min n (f w) → least_walk f n (w ∷ ws) ≡ least_walk f m ws
sooner_walk f n m w [] h = omega arith
sooner_walk f n m w (v ∷ ws) h = let g = sooner_walk f n m w ws h in omega arith

pub least_walk_most : (f : List Route → ℕ) (n : ℕ) (ws : List (List Route)) → least_walk f n ws ≤ n
least_walk_most f n [] = omega arith
least_walk_most f n (w ∷ ws) = let g = least_walk_most f n ws in omega arith

module _ (f : Route → ℕ) (g : RouteNo → Route) (xs : List RouteNo) (i : ℕ) (other : RouteNo) where
  pub route_step : (n m t all : ℕ) → i < length xs → t ≡ f (g (get_or xs i other)) → m ≡ min n t → least_route f n (map g (drop i xs)) ≡ all → least_route f m (map g (drop (i + 1) xs)) ≡ all
  route_step n m t all less took lower h =
      sym (sooner_route f n m (g (get_or xs i other)) (map g (drop (i + 1) xs)) (lower ∙ ap (min n) took)) ∙ (ap (λ ys. least_route f n (map g ys)) (sym (drop_more xs i other less)) ∙ h)

module _ (f : List Route → ℕ) (routes : List Route) (ws : List (List RouteNo)) (i : ℕ) where
  pub walk_step : (v w : List RouteNo) (n m t all : ℕ) → i < length ws → v ≡ get_or ws i v → w ≡ v → t ≡ f (routes_at routes w) → m ≡ min n t
      → least_walk f n (map (routes_at routes) (drop i ws)) ≡ all → least_walk f m (map (routes_at routes) (drop (i + 1) ws)) ≡ all
  walk_step v w n m t all less here same took lower h =
      sym (sooner_walk f n m (routes_at routes (get_or ws i v)) (map (routes_at routes) (drop (i + 1) ws)) (lower ∙ ap (min n) (took ∙ ap (λ z. f (routes_at routes z)) (same ∙ here))))
      ∙ (ap (λ ys. least_walk f n (map (routes_at routes) ys)) (sym (drop_more ws i v less)) ∙ h)

  pub walk_total : (l : Leg) (h least : ℕ) → length ws ≤ i → least_walk f least (map (routes_at routes) (drop i ws)) ≡ least_walk f h (map (routes_at routes) ws) → ws ≡ walks_by_number routes l.places → least ≡ least_walk f h (walks (ride_of routes l).places)
  walk_total l h least over left are =
      ap (λ vs. least_walk f least (map (routes_at routes) vs)) (sym (drop_of_length-le ws over)) ∙ (left ∙ ap (least_walk f h) (ap (map (routes_at routes)) are ∙ numbered routes l.places))
