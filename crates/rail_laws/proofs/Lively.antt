-- No runnable plan of an admitted design comes to a standstill.
use Rattle.std.proofs.Common.{◌≡◌, ℕ, zero, suc, ◌≤◌, ◌<◌, Bool, true, false, not, ◌&&◌, ◌==◌, nat_le, List, length, slice_get, Some, refl, sym, ap, ◌∙◌, arith, leb-true, leb-false, le-leb, eqb-true, true≢false}
use Rattle.std.specs.List.{list_all}
use Rattle.rail_base.specs.declared.station.Station.{Station}
use Rattle.rail_base.specs.declared.station.EdgeNo.{EdgeNo}
use Rattle.rail_base.specs.declared.station.TrainNo.{TrainNo}
use Rattle.rail_base.specs.declared.route.Route.{Route}
use Rattle.rail_base.specs.declared.route.RouteNo.{RouteNo}
use Rattle.rail_base.specs.declared.plan.Command.{Command}
use Rattle.rail_base.specs.declared.plan.Violation.TheVariants as violation
use Rattle.rail_base.specs.Members.{In}
use Rattle.rail_base.specs.Stations.{edge_of, trains, train_of, per_tick_speed, horizon}
use Rattle.rail_spec.specs.Track.{routes_of}
use Rattle.rail_spec.specs.Plans.{no_route, route_at, is_path, path_routes, one_each, commands, path}
use Rattle.rail_spec.specs.Dispatches.{state_of, of_plan, is_granted, state_at}
use Rattle.rail_spec.specs.Requirements.{granted_by, is_certain}
use Rattle.rail_base.specs.Admitted.{IsAdmitted}
use Rattle.rail_spec.specs.Feasible.{IsRunnable}
use Rattle.rail_laws.specs.Progress.{last_grant}
use Rattle.rail_base.proofs.Members.{and_left, and_right}
use Rattle.rail_laws.proofs.RouteLaws.{walk_edges, route_is}
use Rattle.rail_laws.proofs.Standing.{in_path}
use Rattle.rail_laws.proofs.Sums.{get_below, get_in, one_place}
use Rattle.rail_laws.proofs.Given.{command_in_path}
use Rattle.rail_laws.proofs.Admits.{entry_is, good_route, sound, named_train, path_differs}
use Rattle.rail_laws.proofs.Progress.{IsLively, place, granted_from, granted_in_time}

module _ (d : Station) (adm : IsAdmitted d) where
  limits : (r : RouteNo) (e : EdgeNo) → In e (route_at (routes_of d) r).edges → 1 ≤ per_tick_speed d (edge_of d e).speed_mm_s
  limits r = entry_is (λ (q : Route). (e : EdgeNo) → In e q.edges → 1 ≤ per_tick_speed d (edge_of d e).speed_mm_s) no_route (routes_of d) r.0 (λ e m. absurd m) each
    where
      each : (q : Route) → In q (routes_of d) → (e : EdgeNo) → In e q.edges → 1 ≤ per_tick_speed d (edge_of d e).speed_mm_s
      each q k e m = let l = (route_is d adm q k).elementary in (adm.edge e (walk_edges d l.end q.edges l.walk e m)).moves

  module _ (n : ℕ) (plan : List (List Command)) (able : IsRunnable d (routes_of d) n plan) where
    pub lively : IsLively d (routes_of d) plan
    lively = record {
      moves = λ t h. let v = adm.vehicle _ (adm.train t h).vehicle in (v.gains, v.slows, v.moves);
      ticks = let t = adm.tick in let l = t.0 in omega arith;
      limits = limits;
      released_in = λ r z. (good_route d adm r).released_in z;
      differs = path_differs d adm n plan able.well_formed;
      one = and_right (nat_le (length plan) n) (list_all one_each plan) (and_left (nat_le (length plan) n && list_all one_each plan) (list_all (λ t. is_path (train_of d t) (path_routes (routes_of d) plan t)) (trains d)) able.well_formed.formed);
      named = λ c m. named_train d adm n plan able.well_formed c.train c.route (command_in_path plan c m);
      can_run = able.executable;
      sound = sound d adm n plan able.well_formed.formed;
    }

    pub no_deadlock : (c : Command) → In c (commands plan) → (k : ℕ) → last_grant d (routes_of d) plan ≤ k → is_granted d (routes_of d) (of_plan (routes_of d) plan) (state_at d (routes_of d) (of_plan (routes_of d) plan) k) c ≡ true
    no_deadlock c m k late = granted_in_time d (routes_of d) plan lively k c m late

    -- each number of a train's commands is granted by then
    pub all_granted : (t : TrainNo) (j k : ℕ) → 1 ≤ j → j ≤ length (path plan t) → last_grant d (routes_of d) plan ≤ k → granted_by d (routes_of d) plan k t j ≡ true
    all_granted t zero k low high late = absurd (omega arith)
    all_granted t (suc i) k low high late = go (get_below (path plan t) i (omega arith))
      where
        go : ((r : RouteNo) × (slice_get (path plan t) i ≡ Some r)) → granted_by d (routes_of d) plan k t (suc i) ≡ true
        go (r, e) =
            let c : Command = record { train = t; route = r } in
            let m = in_path t plan r (get_in (path plan t) i r e) in
            let p = place d (routes_of d) plan lively c m in
            let same : p.number ≡ i = one_place (path plan t) p.number i r (path_differs d adm n plan able.well_formed t) p.there e in
            let less = granted_from d (routes_of d) plan lively (state_at d (routes_of d) (of_plan (routes_of d) plan) k) c p (no_deadlock c m k late) in
            le-leb (suc i) (state_of (state_at d (routes_of d) (of_plan (routes_of d) plan) k) t).granted (omega arith)

    pub late_grant : (t : TrainNo) (j k : ℕ) → 1 ≤ j → j ≤ length (path plan t) → is_certain d (routes_of d) plan k (violation.Grant t j) ≡ true → horizon d < last_grant d (routes_of d) plan
    late_grant t j k low high h = go (nat_le (last_grant d (routes_of d) plan) (horizon d)) refl
      where
        at : k ≡ horizon d
        at = eqb-true k (horizon d) (and_left (k == horizon d) (not (granted_by d (routes_of d) plan k t j)) h)

        missing : not (granted_by d (routes_of d) plan k t j) ≡ true
        missing = and_right (k == horizon d) (not (granted_by d (routes_of d) plan k t j)) h

        go : (b : Bool) → nat_le (last_grant d (routes_of d) plan) (horizon d) ≡ b → horizon d < last_grant d (routes_of d) plan
        go false e = leb-false _ _ e
        go true e =
            let l = leb-true _ _ e in
            let s = at in
            absurd (true≢false (sym missing ∙ ap not (all_granted t j k low high (omega arith))))
