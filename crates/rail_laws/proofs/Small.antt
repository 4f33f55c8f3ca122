-- Lengths, places and speeds stay small.
use Rattle.std.proofs.Common.{◌≡◌, ℕ, zero, suc, ◌*◌, ◌/◌, ◌≤◌, ◌<◌, inl, inr, Bool, true, false, if◌then◌else◌, nat_le, List, [], ◌∷◌, take, length, sum_by, ◌&&◌, nat_abs, refl, sym, ap, subst, arith, leb-true, mul-le-mul, le_refl, suc-mul, le_trans, div-lt_iff_lt-mul}
use Rattle.std.proofs.lemmas.List.Sums.{sum_by-cons}
use Rattle.rail_base.specs.declared.station.Station.{Station}
use Rattle.rail_base.specs.declared.station.TrainNo.{TrainNo}
use Rattle.rail_base.specs.declared.route.Route.{Route}
use Rattle.rail_base.specs.declared.route.RouteNo.{RouteNo}
use Rattle.rail_base.specs.declared.plan.Command.{Command}
use Rattle.rail_base.specs.declared.state.TrainState.{TrainState}
use Rattle.rail_base.specs.Members.{In}
use Rattle.rail_base.specs.Numbering.{greatest}
use Rattle.rail_base.specs.Stations.{length_of, vehicle_of, IsTrain}
use Rattle.rail_spec.specs.Track.{routes_of}
use Rattle.rail_spec.specs.Plans.{no_route, route_at, length_mm, commands, path, path_routes}
use Rattle.rail_spec.specs.Motion.{reach, permitted}
use Rattle.rail_spec.specs.Dispatches.{state_of, rates, stretches, of_plan, granted_after, speed_in, with_granted, authority}
use Rattle.rail_spec.specs.Dispatches.{moved, pasts_at, state_at}
use Rattle.rail_base.specs.Admitted.{IsAdmitted}
use Rattle.rail_spec.specs.Feasible.{is_of, IsWellFormed}
use Rattle.rail_base.proofs.Members.{and_left, and_right, list_all_at}
use Rattle.rail_base.proofs.Lists.{in_map_back, length-map}
use Rattle.rail_laws.proofs.RouteLaws.{walk_edges, few_edges, route_is}
use Rattle.rail_laws.proofs.Counting.{at_most}
use Rattle.rail_laws.proofs.AsEdges.{told}
use Rattle.rail_laws.proofs.Exclusion.{by_tick}
use Rattle.rail_laws.proofs.Running.{idle_at_first}
use Rattle.rail_laws.proofs.Standing.{in_path}
use Rattle.rail_laws.proofs.Admits.{entry_is, path_differs}

pub greatest_within : (test : ℕ → Bool) (n : ℕ) → greatest test n ≤ n
greatest_within test zero = omega arith
greatest_within test (suc n) = go (test (suc n)) (greatest_within test n)
  where
    go : (b : Bool) → greatest test n ≤ n → (if b then suc n else greatest test n) ≤ suc n
    go true l = omega arith
    go false l = omega arith

sum_at_most : {X : Type 0} (f : X → ℕ) (m : ℕ) (xs : List X) → ((x : X) → In x xs → f x ≤ m) → sum_by f xs ≤ length xs * m
sum_at_most f m [] h = omega arith
sum_at_most f m (x ∷ xs) h =
    let a = sum_by-cons f x xs in
    let b = h x (inl refl) in
    let c = sum_at_most f m xs (λ y k. h y (inr k)) in
    let s = suc-mul (length xs) m in
    omega arith

per_tick_small : (a b : ℕ) → a ≤ 100000 → b ≤ 1000 → a * b / 1000 ≤ 100000
per_tick_small a b h k =
    let product : a * b ≤ 100000 * 1000 = mul-le-mul h k in
    let less : a * b / 1000 < 100001 = (div-lt_iff_lt-mul {k = 1000} {x = a * b} {y = 100001} (omega arith)).1 (omega arith) in
    omega arith

module _ (d : Station) (adm : IsAdmitted d) where
  -- a route has each edge once at most
  pub short_route : (r : Route) → In r (routes_of d) → length_mm r ≤ 40000000000
  short_route r m =
      let e = (route_is d adm r m).elementary in
      let edges = walk_edges d e.end r.edges e.walk in
      let few = few_edges d r.edges e.once edges in
      let most = adm.many_edges in
      let sum = sum_at_most (length_of d) 10000000 r.edges (λ g k. (adm.edge g (edges g k)).length_mm.1) in
      let long : length_mm r ≡ sum_by (length_of d) r.edges = ap nat_abs (told d adm r m).length_is in
      let product : length r.edges * 10000000 ≤ 4000 * 10000000 = mul-le-mul (le_trans few most) (le_refl 10000000) in
      omega arith

  short_at : (r : RouteNo) → length_mm (route_at (routes_of d) r) ≤ 40000000000
  short_at r = entry_is (λ (q : Route). length_mm q ≤ 40000000000) no_route (routes_of d) r.0 (omega arith) short_route

  top_speed : (t : TrainNo) → IsTrain d t → (rates d t).top ≤ 100000
  top_speed t h =
      let v = (adm.vehicle _ (adm.train t h).vehicle).speed in
      per_tick_small (vehicle_of d t).speed_mm_s d.tick_ms v.1 adm.tick.1

  module _ (n : ℕ) (plan : List (List Command)) (able : IsWellFormed d (routes_of d) n plan) where
    named_route : (t : TrainNo) (r : RouteNo) → In r (path plan t) → (1 ≤ r.0) × (r.0 ≤ length (routes_of d))
    named_route t r m =
        let c : Command = record { train = t; route = r } in
        let named = list_all_at (is_of d (routes_of d)) (commands plan) c able.named (in_path t plan r m) in (
          leb-true 1 r.0 (and_right (nat_le 1 t.0 && nat_le t.0 (length d.trains)) (nat_le 1 r.0) (and_left (nat_le 1 t.0 && nat_le t.0 (length d.trains) && nat_le 1 r.0) (nat_le r.0 (length (routes_of d))) named)),
          leb-true r.0 (length (routes_of d)) (and_right (nat_le 1 t.0 && nat_le t.0 (length d.trains) && nat_le 1 r.0) (nat_le r.0 (length (routes_of d))) named),
        )

    -- a path has each route once at most
    pub short_path : length (routes_of d) ≤ 2000 → (t : TrainNo) → sum_by length_mm (path_routes (routes_of d) plan t) ≤ 80000000000000
    short_path many t =
        let few = at_most (λ (r : RouteNo). r.0) (λ x y s. ap (λ n. record { 0 = n }) s) (length (routes_of d)) (path plan t) (path_differs d adm n plan able t) (named_route t) in
        let long = length-map (route_at (routes_of d)) (path plan t) in
        let sum = sum_at_most length_mm 40000000000 (path_routes (routes_of d) plan t) (λ r m. at r (in_map_back (route_at (routes_of d)) (path plan t) r m)) in
        let most : length (path_routes (routes_of d) plan t) ≤ 2000 = omega arith in
        let product : length (path_routes (routes_of d) plan t) * 40000000000 ≤ 2000 * 40000000000 = mul-le-mul most (le_refl 40000000000) in
        omega arith
      where
        at : (r : Route) → ((p : RouteNo) × In p (path plan t) × (route_at (routes_of d) p ≡ r)) → length_mm r ≤ 40000000000
        at r (p, m, e) = subst (λ (q : Route). length_mm q ≤ 40000000000) e (short_at p)

  -- in any run of any plan
  module _ (routes : List Route) (plan : List (List Command)) where
    pub record IsSmall (k : ℕ) (s : TrainState) : Type 0 where
      pub x : s.x ≤ k * 100000
      pub v : s.v ≤ 100000

    pub stays_small : (k : ℕ) (t : TrainNo) → IsSmall k (state_of (state_at d routes (of_plan routes plan) k) t)
    stays_small zero t = subst (IsSmall zero) (sym (idle_at_first d routes (of_plan routes plan) t)) (record { x = omega arith; v = omega arith })
    stays_small (suc k) t = by_tick d routes plan (λ old new. IsSmall k old → IsSmall (suc k) new) k t (λ h. record { x = omega arith; v = omega arith })
        (λ low high h. moved_small (state_of (state_at d routes (of_plan routes plan) k) t) (granted_after d routes (of_plan routes plan) (pasts_at d routes (of_plan routes plan) k) t) (top_speed t (low, high)) h) (stays_small k t)
      where
        moved_small : (old : TrainState) (g : ℕ) → (rates d t).top ≤ 100000 → IsSmall k old → IsSmall (suc k) (moved d routes (of_plan routes plan) t old g)
        moved_small old zero top h = let a = h.x in let s = suc-mul k 100000 in record { x = omega arith; v = h.v }
        moved_small old (suc g) top h =
            let given = take (suc g) (path_routes routes plan t) in
            let u : speed_in d routes (of_plan routes plan) t (with_granted (suc g) old) ≤ reach (rates d t) old.v = greatest_within (permitted (rates d t) (stretches d given) (authority d routes (of_plan routes plan) t (with_granted (suc g) old)) old.x old.v) (reach (rates d t) old.v) in
            let a = h.x in
            let s = suc-mul k 100000 in
            record { x = omega arith; v = omega arith }
