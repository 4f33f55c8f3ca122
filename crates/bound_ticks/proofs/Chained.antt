-- Legs that wait for each other, one at a time.
use Rattle.std.proofs.Common.{◌≡◌, ℕ, ◌+◌, ◌-◌, ◌*◌, ◌≤◌, ◌<◌, List, [], ◌∷◌, All, map, take, drop, get_or, length, Option, None, Some, refl, sym, ap, ap₂, ◌∙◌, arith, mul-le-mul}
use Rattle.rail_base.specs.declared.station.Station.{Station}
use Rattle.rail_base.specs.declared.route.Route.{Route}
use Rattle.rail_base.specs.declared.route.RouteNo.{RouteNo}
use Rattle.rail_base.specs.Routes.{IsRoute, route_at}
use Rattle.interlocking.specs.declared.railway.Interlocking.{Interlocking}
use Rattle.bound_spec.specs.declared.Leg.{Leg}
use Rattle.bound_spec.specs.declared.Place.{Place}
use Rattle.bound_spec.specs.Certificates.{VisitOf, first_of_leg, first_of_places, ride_of, routes_of_place, target, visit_place}
use Rattle.bound_spec.specs.Rides.{chain_ticks, first_place, least_route, on_ticks, release_place, run_ticks, wait_ticks}
use Rattle.bound_spec.specs.Validity.{ticks_from_visit, ticks_to}
use Rattle.bound_spec.specs.Walks.{least_walk, walks}
use Rattle.bound_ticks.specs.Chains.{chain_of, end_ticks, leg_to_release, to_release, to_visit}
use Rattle.bound_ticks.specs.Walks.{IsLeg, IsPlaceOf, first_routes}
use Rattle.bound_ticks.proofs.Least.{least_walk_most}
use Rattle.leg_targets.proofs.Parts.{rest_is}

-- the routes of a leg's first place
pub first_place_is : (routes : List Route) (l : Leg) → first_place (ride_of routes l) ≡ map (route_at routes) (routes_of_place (first_of_leg l))
first_place_is routes l = go l.places
  where
    go : (ps : List Place) → first_place (ride_of routes (record { train = l.train; places = ps })) ≡ map (route_at routes) (routes_of_place (first_of_leg (record { train = l.train; places = ps })))
    go [] = refl
    go (p ∷ ps) = refl

-- the first routes of legs are routes
pub first_routes_named : (i : Interlocking) (legs : List Leg) → All (IsLeg i) legs → All (IsRoute i.routes) (first_routes legs)
first_routes_named i [] h = λ k d l. absurd (omega arith)
first_routes_named i (l ∷ ls) h = go l.places (h 0 l (omega arith)).places
  where
    go : (ps : List Place) → All (IsPlaceOf i.routes) ps → All (IsRoute i.routes) (routes_of_place (first_of_places ps))
    go [] g = λ k d less. absurd (omega arith)
    go (p ∷ ps) g = g 0 p (omega arith)

module _ (d : Station) (routes : List Route) (h : ℕ) where
  pub chain_on : (from to : Option VisitOf) (legs : List Leg) (other l : Leg) (n m : ℕ) → 2 ≤ length legs → l ≡ get_or legs 0 other
      → n ≡ leg_to_release d routes h from l (first_routes (take (length legs - 1) (drop 1 legs))) → m ≡ chain_of d routes h None to (take (length legs - 1) (drop 1 legs))
      → n + 1 + m ≡ chain_of d routes h from to legs
  chain_on from to [] other l n m two here a b = absurd (omega arith)
  chain_on from to (x ∷ []) other l n m two here a b = absurd (omega arith)
  chain_on from to (x ∷ y ∷ ys) other l n m two here a b =
      let e : n ≡ leg_to_release d routes h from x (first_routes (y ∷ ys)) = a ∙ ap₂ (λ z zs. leg_to_release d routes h from z (first_routes zs)) here (rest_is x (y ∷ ys)) in
      let f : m ≡ chain_of d routes h None to (y ∷ ys) = b ∙ ap (chain_of d routes h None to) (rest_is x (y ∷ ys)) in
      omega arith

  pub chain_one : (from to : Option VisitOf) (legs : List Leg) (other : Leg) → 1 ≤ length legs → length legs < 2 → end_ticks d routes h from to (get_or legs 0 other) ≡ chain_of d routes h from to legs
  chain_one from to [] other some few = absurd (omega arith)
  chain_one from to (x ∷ []) other some few = refl
  chain_one from to (x ∷ y ∷ ys) other some few = absurd (omega arith)

  end_most : (from to : Option VisitOf) (l : Leg) → end_ticks d routes h from to l ≤ h
  end_most from None l = omega arith
  end_most from (Some v) l = least_walk_most (to_visit d routes h from l.train v) h (walks (ride_of routes l).places)

  pub release_most : (from : Option VisitOf) (l : Leg) (next : List RouteNo) → leg_to_release d routes h from l next ≤ h
  release_most from l next = least_walk_most (to_release d routes h from l.train next) h (walks (ride_of routes l).places)

  pub chain_most : (from to : Option VisitOf) (legs : List Leg) → chain_of d routes h from to legs ≤ length legs * (h + 1)
  chain_most from to [] = omega arith
  chain_most from to (l ∷ []) = let e = end_most from to l in omega arith
  chain_most from to (l ∷ m ∷ ls) = let e = release_most from l (first_routes (m ∷ ls)) in let g = chain_most None to (m ∷ ls) in omega arith

  -- of few legs they are few
  pub chain_few : (from to : Option VisitOf) (legs : List Leg) → length legs ≤ 64 → h ≤ 86400 → chain_of d routes h from to legs ≤ 5529664
  chain_few from to legs few most =
      let c = chain_most from to legs in
      let one : h + 1 ≤ 86401 = omega arith in
      let m : length legs * (h + 1) ≤ 64 * 86401 = mul-le-mul few one in
      omega arith

  pub chain_by : (n : ℕ) (from to : Option VisitOf) (legs : List Leg) → n ≡ chain_of d routes h from to legs → length legs ≤ 64 → h ≤ 86400 → n ≤ 5529664
  chain_by n from to legs e few most = let c = chain_few from to legs few most in omega arith

-- the ticks from a grant
pub chain_to : (d : Station) (routes : List Route) (h : ℕ) (to : Option VisitOf) (legs : List Leg) → chain_of d routes h None to legs ≡ ticks_to d routes h to legs
chain_to d routes h to [] = refl
chain_to d routes h None (l ∷ ls) = waits l ls
  where
    waits : (l : Leg) (ls : List Leg) → chain_of d routes h None None (l ∷ ls) ≡ wait_ticks d routes h (ride_of routes l) (map (ride_of routes) ls)
    waits l [] = refl
    waits l (m ∷ ls) = ap₂ (λ a b. a + (1 + b)) (ap (λ qs. least_walk (λ rs. least_route (λ q. run_ticks d routes h l.train rs (release_place d l.train rs q)) h qs) h (walks (ride_of routes l).places)) (sym (first_place_is routes m))) (waits m ls)
chain_to d routes h (Some v) (l ∷ ls) = visits l ls
  where
    visits : (l : Leg) (ls : List Leg) → chain_of d routes h None (Some v) (l ∷ ls) ≡ chain_ticks d routes h (ride_of routes l) (map (ride_of routes) ls) (target d v)
    visits l [] = refl
    visits l (m ∷ ls) = ap₂ (λ a b. a + (1 + b)) (ap (λ qs. least_walk (λ rs. least_route (λ q. run_ticks d routes h l.train rs (release_place d l.train rs q)) h qs) h (walks (ride_of routes l).places)) (sym (first_place_is routes m))) (visits m ls)

-- the ticks from a visit
pub chain_from : (d : Station) (routes : List Route) (h : ℕ) (from to : VisitOf) (legs : List Leg) → chain_of d routes h (Some from) (Some to) legs ≡ ticks_from_visit d routes h from to legs
chain_from d routes h from to [] = refl
chain_from d routes h from to (l ∷ []) = refl
chain_from d routes h from to (l ∷ m ∷ ls) = ap₂ (λ a b. a + (1 + b)) (ap (λ qs. least_walk (λ rs. least_route (λ q. on_ticks d routes h l.train rs (visit_place d from rs) (release_place d l.train rs q)) h qs) h (walks (ride_of routes l).places)) (sym (first_place_is routes m))) (chain_to d routes h (Some to) (m ∷ ls))
