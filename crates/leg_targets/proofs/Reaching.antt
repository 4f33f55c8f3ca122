-- Places on walks, one route at a time, and how far they are.
use Rattle.std.proofs.Common.{◌≡◌, ℕ, zero, suc, ◌+◌, ◌-◌, ◌≤◌, Bool, true, false, if◌then◌else◌, List, [], ◌∷◌, All, take, drop, length, get_or, nat_abs, ℤ, sym, ap, ap₂, subst, ◌∙◌, arith, le_trans}
use Rattle.rail_base.specs.declared.station.NodeNo.{NodeNo}
use Rattle.rail_base.specs.declared.station.TrainNo.{TrainNo}
use Rattle.rail_base.specs.declared.station.Station.{Station}
use Rattle.rail_base.specs.declared.route.Route.{Route}
use Rattle.rail_base.specs.declared.route.RouteNo.{RouteNo}
use Rattle.rail_base.specs.Numbering.{after_first}
use Rattle.rail_base.specs.Routes.{no_route, route_at, length_mm, release_offset, own_shared}
use Rattle.rail_base.proofs.Admitting.{admitted}
use Rattle.interlocking.specs.declared.railway.Interlocking.{Interlocking}
use Rattle.rail_spec.specs.Track.{routes_of}
use Rattle.rail_spec.specs.Plans.{has_node}
use Rattle.rail_laws.proofs.Admits.{entry_is}
use Rattle.rail_laws.proofs.Small.{short_route}
use Rattle.rail_course.specs.Tracks.{routes_at}
use Rattle.rail_course.proofs.Granting.{laid_out}
use Rattle.bound_spec.specs.Certificates.{VisitOf, first_in, target, visit_offset}
use Rattle.bound_spec.specs.Rides.{greatest_of, release_place}
use Rattle.leg_targets.proofs.Greatest.{greatest_most}
use Rattle.leg_targets.proofs.Parts.{rest_is}

module _ (i : Interlocking) where
  -- no route is longer than 40 km
  pub short_at : (r : RouteNo) → length_mm (route_at i.routes r) ≤ 40000000000
  short_at r = subst (λ routes. length_mm (route_at routes r) ≤ 40000000000) (sym i.table)
      (entry_is (λ (q : Route). length_mm q ≤ 40000000000) no_route (routes_of i.design.station) r.0 (omega arith) (short_route i.design.station (admitted i.design.station i.design.admitted)))

  pub release_near : (r : RouteNo) (q : Route) → greatest_of (release_offset (route_at i.routes r)) (own_shared (route_at i.routes r) q) ≤ 40000000000
  release_near r q = greatest_most (release_offset (route_at i.routes r)) 40000000000 (own_shared (route_at i.routes r) q) (λ z. le_trans (((laid_out i).each r).releases z) (short_at r))

  pub length_by : (n : ℕ) (r : RouteNo) (q : Route) → n ≡ length_mm q → q ≡ route_at i.routes r → n ≤ 40000000000
  length_by n r q e f = let s = short_at r in let g = e ∙ ap length_mm f in omega arith

  pub release_by : (n : ℕ) (r : RouteNo) (e q : Route) → n ≡ greatest_of (release_offset e) (own_shared e q) → e ≡ route_at i.routes r → n ≤ 40000000000
  release_by n r e q h f = let s = release_near r q in let g = h ∙ ap (λ z. greatest_of (release_offset z) (own_shared z q)) f in omega arith

  first_near : (m : ℕ) (set : List NodeNo) (ns : List (NodeNo × ℤ)) → All (λ p. nat_abs p.1 ≤ m) ns → first_in set ns ≤ m
  first_near m set [] h = omega arith
  first_near m set (p ∷ ps) h = go (has_node set p.0) (first_near m set ps (λ k d l. h (suc k) d (omega arith)))
    where
      go : (b : Bool) → first_in set ps ≤ m → (if b then nat_abs p.1 else first_in set ps) ≤ m
      go true g = h 0 p (omega arith)
      go false g = g

  after_near : (m : ℕ) (ns : List (NodeNo × ℤ)) → All (λ p. nat_abs p.1 ≤ m) ns → All (λ p. nat_abs p.1 ≤ m) (after_first ns)
  after_near m [] h = h
  after_near m (p ∷ ps) h = λ k d l. h (suc k) d (omega arith)

  pub visit_near : (d : Station) (t : TrainNo) (k : ℕ) (r : RouteNo) → visit_offset d t k (route_at i.routes r) ≤ 40000000000
  visit_near d t zero r = omega arith
  visit_near d t (suc zero) r = omega arith
  visit_near d t (suc (suc k)) r = le_trans (first_near _ _ _ (after_near _ (route_at i.routes r).nodes (((laid_out i).each r).nodes))) (short_at r)

  pub visit_by : (d : Station) (t : TrainNo) (k n : ℕ) (r : RouteNo) (q : Route) → n ≡ visit_offset d t k q → q ≡ route_at i.routes r → n ≤ 40000000000
  visit_by d t k n r q e f = let s = visit_near d t k r in let g = e ∙ ap (visit_offset d t k) f in omega arith

module _ (d : Station) (routes : List Route) where
  pub release_on : (t : TrainNo) (q : Route) (walk : List RouteNo) (other : RouteNo) (r : Route) (n m : ℕ) → 2 ≤ length walk → r ≡ route_at routes (get_or walk 0 other) → n ≡ length_mm r
      → m ≡ release_place d t (routes_at routes (take (length walk - 1) (drop 1 walk))) q → n + m ≡ release_place d t (routes_at routes walk) q
  release_on t q [] other r n m two a b e = absurd (omega arith)
  release_on t q (x ∷ []) other r n m two a b e = absurd (omega arith)
  release_on t q (x ∷ y ∷ ys) other r n m two a b e = ap₂ (λ j k. j + k) (b ∙ ap length_mm a) (e ∙ ap (λ zs. release_place d t (routes_at routes zs) q) (rest_is x (y ∷ ys)))

  pub target_on : (v : VisitOf) (walk : List RouteNo) (other : RouteNo) (r : Route) (n m : ℕ) → 2 ≤ length walk → r ≡ route_at routes (get_or walk 0 other) → n ≡ length_mm r
      → m ≡ target d v (routes_at routes (take (length walk - 1) (drop 1 walk))) → n + m ≡ target d v (routes_at routes walk)
  target_on v [] other r n m two a b e = absurd (omega arith)
  target_on v (x ∷ []) other r n m two a b e = absurd (omega arith)
  target_on v (x ∷ y ∷ ys) other r n m two a b e = ap₂ (λ j k. j + k) (b ∙ ap length_mm a) (e ∙ ap (λ zs. target d v (routes_at routes zs)) (rest_is x (y ∷ ys)))
