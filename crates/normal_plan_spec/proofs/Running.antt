-- A run depends on a plan by its paths, and by which commands precede which.
use Rattle.std.proofs.Common.{◌≡◌, ℕ, zero, suc, ◌+◌, ◌*◌, Bool, true, ◌&&◌, if◌then◌else◌, nat_le, nat_lt, List, Option, None, Some, ◌∷◌, map, filter, length, slice_get, refl, sym, ap, subst, ◌∙◌}
use Rattle.std.specs.Prelude.{is_some, option_and_then}
use Rattle.std.specs.List.{list_all}
use Rattle.rail_base.specs.declared.station.Station.{Station}
use Rattle.rail_base.specs.declared.station.Order.{Order}
use Rattle.rail_base.specs.declared.station.Within.{Within}
use Rattle.rail_base.specs.declared.station.TrainNo.{TrainNo}
use Rattle.rail_base.specs.declared.route.Route.{Route}
use Rattle.rail_base.specs.declared.route.RouteNo.{RouteNo}
use Rattle.rail_base.specs.declared.plan.Command.{Command}
use Rattle.rail_base.specs.declared.state.TrainState.{TrainState}
use Rattle.rail_base.specs.declared.state.PathNode.{PathNode}
use Rattle.rail_base.specs.Events.{has_happened}
use Rattle.rail_base.specs.Members.{In}
use Rattle.rail_base.specs.Numbering.{entry, least, one_to}
use Rattle.rail_base.specs.Stations.{trains, train_of, horizon}
use Rattle.rail_spec.specs.Track.{routes_of}
use Rattle.rail_spec.specs.Plans.{commands, is_train, path, preceding, precedes, route_at}
use Rattle.rail_spec.specs.Places.{path_nodes, visits_on}
use Rattle.rail_spec.specs.Dispatches.{Dispatch, granted_after, granted_with, has_cleared, is_ready, moved, now, of_plan, past_of, pasts_at, state_at, state_of, tick}
use Rattle.rail_spec.specs.Requirements.{both, meets, visit_numbers}
use Rattle.rail_spec.specs.Feasible.{IsFeasible}
use Rattle.rail_plan.specs.Earlier.{IsAsGood}
use Rattle.rail_base.proofs.Members.{in_filter, list_all_at, same_bool}
use Rattle.rail_base.proofs.Lists.{in_filter_back, in_map_back, list_all_from}
use Rattle.rail_laws.proofs.Given.{command_in_path, path_is, same_train}
use Rattle.normal_plan_spec.specs.Alike.{HasSameOrder, RunsAs}

-- ---- lists with the same members

all_same : {X : Type 0} (xs ys : List X) → ((x : X) → In x xs → In x ys) → ((x : X) → In x ys → In x xs) → (test : X → Bool) → list_all test xs ≡ list_all test ys
all_same xs ys on back test =
    same_bool (list_all test xs) (list_all test ys)
    (λ h. list_all_from test ys (λ x m. list_all_at test xs x h (back x m)))
    (λ h. list_all_from test xs (λ x m. list_all_at test ys x h (on x m)))

-- the command of a route of a path
command_of_path : (plan : List (List Command)) (c : Command) → In c.route (path plan c.train) → In c (commands plan)
command_of_path plan c m = found (in_map_back (λ (g : Command). g.route) (filter (λ (g : Command). is_train g.train c.train) (commands plan)) c.route (subst (In c.route) (path_is c.train plan) m))
  where
    same : (g : Command) → is_train g.train c.train ≡ true → g.route ≡ c.route → g ≡ c
    same g h e = let t = same_train g.train c.train h in λ i. record { train = t i; route = e i }

    found : (g : Command) × In g (filter (λ (g : Command). is_train g.train c.train) (commands plan)) × (g.route ≡ c.route) → In c (commands plan)
    found (g, k, e) = let l = in_filter_back (λ (g : Command). is_train g.train c.train) (commands plan) g k in subst (λ x. In x (commands plan)) (same g l.1 e) l.0

module _ (plan other : List (List Command)) (paths : (t : TrainNo) → path other t ≡ path plan t) where
  -- its commands are there as well
  has_it : (c : Command) → In c (commands other) → In c (commands plan)
  has_it c m = command_of_path plan c (subst (In c.route) (paths c.train) (command_in_path other c m))

module _ (routes : List Route) (plan other : List (List Command)) (same : HasSameOrder routes plan other) where
  precedes_too : (c e : Command) → In e (preceding routes other c) → In e (preceding routes plan c)
  precedes_too c e m =
      let l = in_filter_back (λ x. precedes routes other x c) (commands other) e m in
      in_filter (λ x. precedes routes plan x c) (commands plan) e (has_it plan other same.paths e l.0) (sym (same.order e c) ∙ l.1)

  preceded : (c e : Command) → In e (preceding routes plan c) → In e (preceding routes other c)
  preceded c e m =
      let l = in_filter_back (λ x. precedes routes plan x c) (commands plan) e m in
      in_filter (λ x. precedes routes other x c) (commands other) e (has_it other plan (λ t. sym (same.paths t)) e l.0) (same.order e c ∙ l.1)

  same_tests : (c : Command) (test : Command → Bool) → list_all test (preceding routes other c) ≡ list_all test (preceding routes plan c)
  same_tests c = all_same (preceding routes other c) (preceding routes plan c) (precedes_too c) (preceded c)

-- ---- runs by the same paths

module _ (d : Station) (routes : List Route) (p : TrainNo → List RouteNo) (one other : Command → List Command) (same : (c : Command) (test : Command → Bool) → list_all test (one c) ≡ list_all test (other c)) where
  abbrev with_one : Dispatch
  with_one = record { path = p; before = one; concerns = λ k t. true }

  abbrev with_other : Dispatch
  with_other = record { path = p; before = other; concerns = λ k t. true }

  same_ready : (ps : List (List TrainState)) (c : Command) → is_ready d routes with_one ps c ≡ is_ready d routes with_other ps c
  same_ready ps c = same c (has_cleared d routes with_one ps c)

  same_granted : (ps : List (List TrainState)) (t : TrainNo) (r : Option RouteNo) → granted_with d routes with_one ps t r ≡ granted_with d routes with_other ps t r
  same_granted ps t None = refl
  same_granted ps t (Some r) = ap (λ b. if b then (state_of (now ps) t).granted + 1 else (state_of (now ps) t).granted) (same_ready ps (record { train = t; route = r }))

  same_moved : (t : TrainNo) (s : TrainState) (n : ℕ) → moved d routes with_one t s n ≡ moved d routes with_other t s n
  same_moved t s zero = refl
  same_moved t s (suc n) = refl

  same_train_after : (ps : List (List TrainState)) (t : TrainNo) → moved d routes with_one t (state_of (now ps) t) (granted_after d routes with_one ps t) ≡ moved d routes with_other t (state_of (now ps) t) (granted_after d routes with_other ps t)
  same_train_after ps t =
      same_moved t (state_of (now ps) t) (granted_after d routes with_one ps t)
      ∙ ap (moved d routes with_other t (state_of (now ps) t)) (same_granted ps t (slice_get (p t) (state_of (now ps) t).granted))

  same_tick : (k : ℕ) (ps : List (List TrainState)) → tick d routes with_one k ps ≡ tick d routes with_other k ps
  same_tick k ps = λ i. map (λ t. same_train_after ps t i ∷ past_of ps t) (trains d)

  same_pasts : (k : ℕ) → pasts_at d routes with_one k ≡ pasts_at d routes with_other k
  same_pasts zero = refl
  same_pasts (suc k) = same_tick (suc k) (pasts_at d routes with_one k) ∙ ap (tick d routes with_other (suc k)) (same_pasts k)

-- ---- plans

module _ (d : Station) (routes : List Route) (plan other : List (List Command)) (same : HasSameOrder routes plan other) where
  same_paths : path other ≡ path plan
  same_paths = λ i t. same.paths t i

  abbrev between : Dispatch
  between = record { path = path plan; before = preceding routes other; concerns = λ k t. true }

  pub run_alike : RunsAs d routes plan other
  run_alike k =
      (λ i. state_at d routes (record { path = same_paths i; before = preceding routes other; concerns = λ k t. true }) k)
      ∙ ap now (same_pasts d routes (path plan) (preceding routes other) (preceding routes plan) (same_tests routes plan other same) k)

  -- whether a run with these paths and states meets the design
  abbrev meets_in : (TrainNo → List RouteNo) → (ℕ → List TrainState) → Bool
  meets_in p states =
      let k = horizon d in
      let passed : TrainNo → PathNode → Option ℕ = λ t node. least (λ j. has_happened (state_of (states j) t) node.event) k in
      let visited : TrainNo → ℕ → Option ℕ = λ t j. option_and_then (passed t) (entry None (visits_on (train_of d t).visits (path_nodes (map (route_at routes) (p t)))) j) in
      (list_all (λ t. list_all (λ j. nat_le j (state_of (states k) t).granted) (one_to (length (p t)))) (trains d)
      && list_all (λ t. list_all (λ j. is_some (visited t j)) (visit_numbers d t)) (trains d))
      && list_all (λ (o : Order). both nat_lt (visited o.first_train o.first_visit) (visited o.then_train o.then_visit)) d.orders
      && list_all (λ (w : Within). both (λ from to. nat_le (to * d.tick_ms) (from * d.tick_ms + w.max_ms)) (visited w.from_train w.from_visit) (visited w.to_train w.to_visit)) d.withins

  meets_is : (some : List (List Command)) → meets d routes some ≡ meets_in (path some) (state_at d routes (of_plan routes some))
  meets_is some = refl

  same_states : state_at d routes (of_plan routes other) ≡ state_at d routes (of_plan routes plan)
  same_states = λ i k. run_alike k i

  pub meet_alike : meets d routes other ≡ meets d routes plan
  meet_alike = meets_is other ∙ (λ i. meets_in (same_paths i) (same_states i)) ∙ sym (meets_is plan)

-- ---- plans that are as good

pub order_of_good : (d : Station) (routes : List Route) (plan other : List (List Command)) → IsAsGood d routes plan other → HasSameOrder routes plan other
order_of_good d routes plan other good = record { paths = good.paths; order = good.order }

pub good_is_feasible : (d : Station) (n : ℕ) (plan other : List (List Command)) → IsFeasible d n plan → IsAsGood d (routes_of d) plan other → IsFeasible d n other
good_is_feasible d n plan other f good = record {
  runnable = good.runnable n f.runnable;
  met = meet_alike d (routes_of d) plan other (order_of_good d (routes_of d) plan other good) ∙ f.met;
}
