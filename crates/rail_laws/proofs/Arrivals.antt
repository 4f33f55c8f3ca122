-- By the tick by which all commands are granted, all trains have come to the end of their paths, and all visits are made.
use Rattle.std.proofs.Common.{◌≡◌, ℕ, zero, suc, ◌+◌, ◌≤◌, ◌<◌, Bool, true, false, not, if◌then◌else◌, ◌==◌, nat_le, List, map, length, Option, Some, None, is_some, is_none, option_and_then, sum_by, nat_abs, refl, sym, ap, subst, ◌∙◌, arith, leb-true, leb-false, le-leb, eqb-true, true≢false}
use Rattle.std.specs.List.{list_any}
use Rattle.rail_base.specs.declared.station.Station.{Station}
use Rattle.rail_base.specs.declared.station.TrainNo.{TrainNo}
use Rattle.rail_base.specs.declared.route.Route.{Route}
use Rattle.rail_base.specs.declared.route.RouteNo.{RouteNo}
use Rattle.rail_base.specs.declared.plan.Command.{Command}
use Rattle.rail_base.specs.declared.plan.Violation.{Violation}
use Rattle.rail_base.specs.declared.plan.Violation.TheVariants as violation
use Rattle.rail_base.specs.Members.{In}
use Rattle.rail_base.specs.Numbering.{entry, one_to, least, or_this}
use Rattle.rail_spec.specs.Track.{routes_of}
use Rattle.rail_spec.specs.Plans.{route_at, length_mm, exits, path, path_routes}
use Rattle.rail_base.specs.Stations.{trains, train_of, train_length, horizon, IsTrain}
use Rattle.rail_spec.specs.Dispatches.{state_of, of_plan, state_at}
use Rattle.rail_base.specs.declared.state.PathNode.{PathNode}
use Rattle.rail_spec.specs.Visits.{pass_tick, happened_by}
use Rattle.rail_spec.specs.Visits.{path_nodes_of_train, visits_of_train}
use Rattle.rail_spec.specs.Requirements.{visit_numbers, command_numbers, granted_by, visited_by, is_done, is_certain, path_failures, path_violation, violation_at, possible_violations, cost}
use Rattle.rail_base.specs.Admitted.{IsAdmitted}
use Rattle.rail_spec.specs.Feasible.{IsRunnable}
use Rattle.rail_laws.specs.Progress.{last_grant}
use Rattle.rail_spec.specs.Verdict.{or_else, failure, IsForTime}
use Rattle.rail_base.proofs.Members.{and_left, and_right, and_both}
use Rattle.rail_base.proofs.Lists.{in_map, in_map_back, in_flat_map, in_flat_map_back, length-map}
pub use Rattle.rail_laws.proofs.Visiting.{in_after, in_from}
use Rattle.rail_laws.proofs.Visiting.{NodesIn, in_path_nodes, in_visits_on}
use Rattle.rail_laws.proofs.Admits.{entry_is, good_route}
use Rattle.rail_laws.proofs.Progress.{runs_through, all_of_path}
use Rattle.rail_laws.proofs.Lively.{lively, no_deadlock, all_granted}
use Rattle.rail_laws.proofs.Verdicts.{none_found, found_in, found_passes, one_to_in, done_grants, done_visits, done_from, each_way}

least_some : (test : ℕ → Bool) (n : ℕ) → 1 ≤ n → test n ≡ true → is_some (least test n) ≡ true
least_some test zero low h = absurd (omega arith)
least_some test (suc n) low h = go (least test n) (test (suc n)) h
  where
    go : (o : Option ℕ) (b : Bool) → b ≡ true → is_some (or_this o b (suc n)) ≡ true
    go (Some k) b e = refl
    go None true e = refl
    go None false e = e

module _ (d : Station) (adm : IsAdmitted d) (n : ℕ) (plan : List (List Command)) (able : IsRunnable d (routes_of d) n plan) where
  -- each train has come to the end of its path by then, and is out where that exits
  pub come_through : (t : TrainNo) (k : ℕ) → IsTrain d t → last_grant d (routes_of d) plan ≤ k
      → (sum_by length_mm (path_routes (routes_of d) plan t) ≤ (state_of (state_at d (routes_of d) (of_plan (routes_of d) plan) k) t).x)
      × (list_any exits (path_routes (routes_of d) plan t) ≡ true → sum_by length_mm (path_routes (routes_of d) plan t) + train_length d t ≤ (state_of (state_at d (routes_of d) (of_plan (routes_of d) plan) k) t).x)
  come_through t k h late =
      let l = runs_through d (routes_of d) plan (lively d adm n plan able) k t h late in
      (omega arith, λ e. let more : (if list_any exits (path_routes (routes_of d) plan t) then train_length d t else 0) ≡ train_length d t = ap (λ b. if b then train_length d t else 0) e in omega arith)

  nodes_in_path : (t : TrainNo) → NodesIn (path_routes (routes_of d) plan t)
  nodes_in_path t r m p k = at (in_map_back (route_at (routes_of d)) (path plan t) r m)
    where
      at : ((q : RouteNo) × In q (path plan t) × (route_at (routes_of d) q ≡ r)) → nat_abs p.1 ≤ length_mm r
      at (q, i, e) = subst (λ (w : Route). nat_abs p.1 ≤ length_mm w) e ((good_route d adm q).nodes_in p (subst (λ (w : Route). In p w.nodes) (sym e) k))

  path_node_passed : (t : TrainNo) (k : ℕ) (s : PathNode) → IsTrain d t → last_grant d (routes_of d) plan ≤ k → In s (path_nodes_of_train d (routes_of d) (of_plan (routes_of d) plan) t) → happened_by d (routes_of d) (of_plan (routes_of d) plan) t s.event k ≡ true
  path_node_passed t k s h late m =
      let on = in_path_nodes (path_routes (routes_of d) plan t) (nodes_in_path t) s m in
      let far = (come_through t k h late).0 in
      let off = on.0 in
      let number = on.1 in
      let long = length-map (route_at (routes_of d)) (path plan t) in
      let grants = all_of_path d (routes_of d) plan (lively d adm n plan able) k t (λ c i. no_deadlock d adm n plan able c i k late) in
      and_both (nat_le s.event.granted (state_of (state_at d (routes_of d) (of_plan (routes_of d) plan) k) t).granted) (nat_le s.event.place (state_of (state_at d (routes_of d) (of_plan (routes_of d) plan) k) t).x) (le-leb s.event.granted (state_of (state_at d (routes_of d) (of_plan (routes_of d) plan) k) t).granted (omega arith)) (le-leb s.event.place (state_of (state_at d (routes_of d) (of_plan (routes_of d) plan) k) t).x (omega arith))

  -- a visit that the path makes is made by then
  pub visit_made : (t : TrainNo) (j k : ℕ) → IsTrain d t → 1 ≤ k → last_grant d (routes_of d) plan ≤ k → is_none (entry None (visits_of_train d (routes_of d) (of_plan (routes_of d) plan) t) j) ≡ false → visited_by d (routes_of d) plan k t j ≡ true
  visit_made t j k h low late there = go (entry None (visits_of_train d (routes_of d) (of_plan (routes_of d) plan) t) j) there on_path
    where
      on_path : (s : PathNode) → entry None (visits_of_train d (routes_of d) (of_plan (routes_of d) plan) t) j ≡ Some s → In s (path_nodes_of_train d (routes_of d) (of_plan (routes_of d) plan) t)
      on_path = entry_is (λ (o : Option PathNode). (s : PathNode) → o ≡ Some s → In s (path_nodes_of_train d (routes_of d) (of_plan (routes_of d) plan) t)) None (visits_of_train d (routes_of d) (of_plan (routes_of d) plan) t) j (λ s e. cc) (λ o m s e. in_visits_on (train_of d t).visits (path_nodes_of_train d (routes_of d) (of_plan (routes_of d) plan) t) s (subst (λ w. In w (visits_of_train d (routes_of d) (of_plan (routes_of d) plan) t)) e m))

      go : (o : Option PathNode) → is_none o ≡ false → ((s : PathNode) → o ≡ Some s → In s (path_nodes_of_train d (routes_of d) (of_plan (routes_of d) plan) t)) → is_some (option_and_then (pass_tick d (routes_of d) (of_plan (routes_of d) plan) k t) o) ≡ true
      go None e on = absurd (true≢false e)
      go (Some s) e on = least_some (happened_by d (routes_of d) (of_plan (routes_of d) plan) t s.event) k low (path_node_passed t k s h late (on s refl))

  train_in : (t : TrainNo) → In t (trains d) → IsTrain d t
  train_in t m = go (in_map_back (λ (i : ℕ). let u : TrainNo = record { 0 = i } in u) (one_to (length d.trains)) t m)
    where
      go : ((i : ℕ) × In i (one_to (length d.trains)) × (record { 0 = i } ≡ t)) → IsTrain d t
      go (i, k, e) = subst (IsTrain d) e (one_to_in (length d.trains) i k)

  -- where the paths make all visits, all is done by then
  pub done_in_time : path_violation d (routes_of d) plan ≡ None → (k : ℕ) → 1 ≤ k → last_grant d (routes_of d) plan ≤ k → is_done d (routes_of d) plan k ≡ true
  done_in_time paths k low late =
      done_from d (routes_of d) plan adm k (λ t m j i. let l = one_to_in (length (path plan t)) j i in all_granted d adm n plan able t j k l.0 l.1 late)
      (λ t m j i. visit_made t j k (train_in t m) low late (none_found (is_certain d (routes_of d) plan 1) (path_failures d (routes_of d) plan) paths (violation.Path t j)
      (in_flat_map (λ t. map (violation.Path t) (visit_numbers d t)) (trains d) t (violation.Path t j) m (in_map (violation.Path t) (visit_numbers d t) j i))))

  -- so a plan that fails for want of time alone fails at a horizon before that tick
  pub late_only : (v : Violation) → failure d (routes_of d) plan ≡ Some v → IsForTime v → horizon d < last_grant d (routes_of d) plan
  late_only v h time = go (nat_le (last_grant d (routes_of d) plan) (horizon d)) refl
    where
      path_at : (t : TrainNo) → ((j : ℕ) × In j (visit_numbers d t) × (violation.Path t j ≡ v)) → ⊥
      path_at t (j, i, e) = subst IsForTime (sym e) time

      path_fails : ((t : TrainNo) × In t (trains d) × In v (map (violation.Path t) (visit_numbers d t))) → ⊥
      path_fails (t, m, i) = path_at t (in_map_back (violation.Path t) (visit_numbers d t) v i)

      no_time : last_grant d (routes_of d) plan ≤ horizon d → path_violation d (routes_of d) plan ≡ None → (k : ℕ) (w : Violation) → In w (possible_violations d (routes_of d) plan) → IsForTime w → is_certain d (routes_of d) plan k w ≡ true → ⊥
      no_time late none k = each_way d (routes_of d) plan adm (λ w. IsForTime w → is_certain d (routes_of d) plan k w ≡ true → ⊥) (λ w m f c. f) (λ o m f c. f)
          (λ t j m i f c. no_grant t j m i (and_left (k == horizon d) (not (granted_by d (routes_of d) plan k t j)) c) (and_right (k == horizon d) (not (granted_by d (routes_of d) plan k t j)) c))
          (λ t j m i f c. no_visit t j m i (and_left (k == horizon d) (not (visited_by d (routes_of d) plan k t j)) c) (and_right (k == horizon d) (not (visited_by d (routes_of d) plan k t j)) c))
        where
          done : is_done d (routes_of d) plan (horizon d) ≡ true
          done = done_in_time none (horizon d) adm.ticks.0 late

          no_grant : (t : TrainNo) (j : ℕ) → In t (trains d) → In j (command_numbers d (routes_of d) plan t) → (k == horizon d) ≡ true → not (granted_by d (routes_of d) plan k t j) ≡ true → ⊥
          no_grant t j m i e f = true≢false (sym f ∙ ap not (subst (λ l. granted_by d (routes_of d) plan l t j ≡ true) (sym (eqb-true k (horizon d) e)) (done_grants d (routes_of d) plan adm (horizon d) done t m j i)))

          no_visit : (t : TrainNo) (j : ℕ) → In t (trains d) → In j (visit_numbers d t) → (k == horizon d) ≡ true → not (visited_by d (routes_of d) plan k t j) ≡ true → ⊥
          no_visit t j m i e f = true≢false (sym f ∙ ap not (subst (λ l. visited_by d (routes_of d) plan l t j ≡ true) (sym (eqb-true k (horizon d) e)) (done_visits d (routes_of d) plan adm (horizon d) done t m j i)))

      at : last_grant d (routes_of d) plan ≤ horizon d → (o : Option Violation) → path_violation d (routes_of d) plan ≡ o → or_else o (violation_at d (routes_of d) plan (cost d (routes_of d) plan)) ≡ Some v → ⊥
      at late None e k = no_time late e (cost d (routes_of d) plan) v (found_in (is_certain d (routes_of d) plan (cost d (routes_of d) plan)) (possible_violations d (routes_of d) plan) v k) time (found_passes (is_certain d (routes_of d) plan (cost d (routes_of d) plan)) (possible_violations d (routes_of d) plan) v k)
      at late (Some w) e k = path_fails (in_flat_map_back (λ t. map (violation.Path t) (visit_numbers d t)) (trains d) v (found_in (is_certain d (routes_of d) plan 1) (path_failures d (routes_of d) plan) v (e ∙ k)))

      go : (b : Bool) → nat_le (last_grant d (routes_of d) plan) (horizon d) ≡ b → horizon d < last_grant d (routes_of d) plan
      go false e = leb-false _ _ e
      go true e = absurd (at (leb-true _ _ e) (path_violation d (routes_of d) plan) refl h)
