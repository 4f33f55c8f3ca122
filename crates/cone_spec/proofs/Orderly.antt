-- The run of a cone of an admitted design is orderly, and past its horizon a train stays as it is.
use Rattle.std.proofs.Common.{◌≡◌, ℕ, zero, suc, ◌+◌, ◌-◌, ◌≤◌, ◌⊎◌, inl, inr, true, false, not, ◌&&◌, ◌||◌, List, [], ◌∷◌, map, flat_map, take, length, sum_by, refl, sym, ap, subst, ◌∙◌, arith, true≢false}
use Rattle.std.specs.List.{list_any}
use Rattle.std.proofs.lemmas.List.Sums.{sum_by-append, sum_by-cons}
use Rattle.rail_base.specs.declared.station.Station.{Station}
use Rattle.rail_base.specs.declared.station.TrainNo.{TrainNo}
use Rattle.rail_base.specs.declared.route.Route.{Route}
use Rattle.rail_base.specs.declared.route.RouteNo.{RouteNo}
use Rattle.rail_base.specs.declared.route.Finish.{Finish}
use Rattle.rail_base.specs.declared.route.Finish.TheVariants as finish
use Rattle.rail_base.specs.Admitted.{IsAdmitted}
use Rattle.rail_base.specs.Members.{In, all_pairs, all_neighbors}
use Rattle.rail_base.specs.Stations.{length_of}
use Rattle.rail_spec.specs.Track.{routes_of}
use Rattle.rail_spec.specs.Plans.{route_at, length_mm, exits, goes_on, is_start}
use Rattle.rail_base.proofs.Members.{and_left, and_right, not_less}
use Rattle.rail_base.proofs.Lists.{in_map_back}
use Rattle.rail_laws.proofs.Admits.{good_route, vehicle_of_train}
use Rattle.rail_laws.proofs.Running.{stays}
use Rattle.rail_laws.proofs.Visiting.{in_take}
use Rattle.cone_spec.specs.declared.ConeTrain.{ConeTrain}
use Rattle.cone_spec.specs.declared.Cone.{Cone}
use Rattle.cone_spec.specs.Cones.{unnamed, named, free_path, of_cone, cone_state_at}
use Rattle.cone_spec.specs.Validity.{from_boundary}
use Rattle.cone_spec.specs.Laws.{StaysPastHorizon, ConesAreOrderly}
use Rattle.cone_spec.proofs.Naming.{IsNamed, named_or_not, of_design, proper}

-- ---- past the horizon

pub stays_past_horizon : (d : Station) (routes : List Route) (k : Cone) → StaysPastHorizon d routes k
stays_past_horizon d routes k tick t past = let z : (named k t).horizon + (tick - (named k t).horizon) ≡ tick = omega arith in ap (λ i. cone_state_at d routes k i t) (sym z) ∙ by (tick - (named k t).horizon)
  where
    by : (m : ℕ) → cone_state_at d routes k ((named k t).horizon + m) t ≡ cone_state_at d routes k (named k t).horizon t
    by zero = let z : (named k t).horizon + 0 ≡ (named k t).horizon = omega arith in ap (λ i. cone_state_at d routes k i t) z
    by (suc m) =
        let z : (named k t).horizon + suc m ≡ suc ((named k t).horizon + m) = omega arith in
        ap (λ i. cone_state_at d routes k i t) z
        ∙ stays d routes (of_cone k) ((named k t).horizon + m) t (not_less ((named k t).horizon + m) (named k t).horizon (omega arith))
        ∙ by m

-- ---- the routes of a row

module _ (at : RouteNo → Route) where
  -- a route that exits is the last
  exit_last_of : (ps : List RouteNo) (n g : ℕ) → all_neighbors (λ r q. goes_on r.finish q.start) (map at ps) ≡ true → list_any exits (take g (map at (take n ps))) ≡ true → length (map at (take n ps)) ≤ g
  exit_last_of ps zero g h e = omega arith
  exit_last_of [] (suc n) g h e = omega arith
  exit_last_of (p ∷ ps) (suc n) zero h e = absurd (true≢false (sym e))
  exit_last_of (p ∷ []) (suc zero) (suc g) h e = omega arith
  exit_last_of (p ∷ []) (suc (suc n)) (suc g) h e = omega arith
  exit_last_of (p ∷ q ∷ ps) (suc n) (suc g) h e =
      let stay = inside (at p).finish (and_left (goes_on (at p).finish (at q).start) (all_neighbors (λ r q. goes_on r.finish q.start) (map at (q ∷ ps))) h) in
      let further : list_any exits (take g (map at (take n (q ∷ ps)))) ≡ true = subst (λ b. (b || list_any exits (take g (map at (take n (q ∷ ps))))) ≡ true) stay e in
      let l = exit_last_of (q ∷ ps) n g (and_right (goes_on (at p).finish (at q).start) _ h) further in omega arith
    where
      inside : (f : Finish) → goes_on f (at q).start ≡ true → exits (record (at p) { finish = f }) ≡ false
      inside (finish.Exit n) k = absurd (true≢false (sym k))
      inside (finish.Signal s) k = refl
      inside (finish.DeadEnd n) k = refl

edges_of_all : (d : Station) (rs : List Route) → ((r : Route) → In r rs → sum_by (length_of d) r.edges ≡ length_mm r) → sum_by (length_of d) (flat_map (λ r. r.edges) rs) ≡ sum_by length_mm rs
edges_of_all d [] each = refl
edges_of_all d (r ∷ rs) each =
    let a = sum_by-append (length_of d) r.edges (flat_map (λ r. r.edges) rs) in
    let b = sum_by-cons length_mm r rs in
    let c = each r (inl refl) in
    let e = edges_of_all d rs (λ q m. each q (inr m)) in
    omega arith

-- ---- orderly

pub orderly : (d : Station) → IsAdmitted d → ConesAreOrderly d
orderly d adm k fits = record {
  slows = λ i h. (adm.vehicle _ (adm.train (record { 0 = suc i }) (vehicle_of_train d adm i h)).vehicle).slows;
  whole = λ t g. edges_of_all d (take g (map (route_at (routes_of d)) (free_path k t))) (λ r m. each t r (in_map_back (route_at (routes_of d)) (free_path k t) r (in_take g (map (route_at (routes_of d)) (free_path k t)) r m)));
  exit_last = λ t g h e. last t g e;
  nodes_in = λ r. (good_route d adm r).nodes_in;
  nodes_rise = λ r. (good_route d adm r).nodes_rise;
}
  where
    each : (t : TrainNo) (r : Route) → ((p : RouteNo) × In p (free_path k t) × (route_at (routes_of d) p ≡ r)) → sum_by (length_of d) r.edges ≡ length_mm r
    each t r (p, m, e) = subst (λ w. sum_by (length_of d) w.edges ≡ length_mm w) e (good_route d adm p).whole

    last : (t : TrainNo) (g : ℕ) → list_any exits (take g (map (route_at (routes_of d)) (free_path k t))) ≡ true → length (map (route_at (routes_of d)) (free_path k t)) ≤ g
    last t g e = go (named_or_not k.trains t)
      where
        go : IsNamed k.trains t ⊎ (named k t ≡ unnamed t) → length (map (route_at (routes_of d)) (free_path k t)) ≤ g
        go (inr none) = let z = ap (λ (c : ConeTrain). length (map (route_at (routes_of d)) (take c.free c.path))) none in omega arith
        go (inl i) =
            let w = (proper d (routes_of d) k (of_design d (routes_of d) k fits) (named k t) i.member).way in
            let rs = map (route_at (routes_of d)) (named k t).path in
            let goes = and_right (from_boundary rs) _ (and_left (from_boundary rs && all_neighbors (λ r q. goes_on r.finish q.start) rs) (all_pairs (λ r q. not (is_start r.start q.start)) rs) w) in
            exit_last_of (route_at (routes_of d)) (named k t).path (named k t).free g goes e
