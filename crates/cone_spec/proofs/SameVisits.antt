-- A train that moves in a plan's run as in a cone's makes its visits at the same ticks.
use Rattle.std.proofs.Common.{◌≡◌, ℕ, ◌≤◌, ◌<◌, inl, inr, Bool, true, false, ◌&&◌, nat_le, List, ◌++◌, map, length, Option, None, Some, option_and_then, refl, sym, ap, subst, ◌∙◌, arith, leb-true, true≢false}
use Rattle.std.proofs.lemmas.List.{map-append}
use Rattle.rail_base.specs.declared.station.Station.{Station}
use Rattle.rail_base.specs.declared.station.TrainNo.{TrainNo}
use Rattle.rail_base.specs.declared.route.Route.{Route}
use Rattle.rail_base.specs.declared.route.RouteNo.{RouteNo}
use Rattle.rail_base.specs.declared.plan.Command.{Command}
use Rattle.cone_spec.specs.declared.Cone.{Cone}
use Rattle.rail_base.specs.Numbering.{entry}
use Rattle.rail_spec.specs.Plans.{route_at, path, path_routes}
use Rattle.rail_base.specs.Stations.{train_of}
use Rattle.rail_spec.specs.Dispatches.{state_of, state_at, of_plan}
use Rattle.rail_base.specs.declared.state.PathNode.{PathNode}
use Rattle.rail_spec.specs.Visits.{pass_tick, visits_of_train, visit_tick, happened_by}
use Rattle.rail_spec.specs.Places.{path_nodes, visits_on}
use Rattle.cone_spec.specs.Cones.{free_path, of_cone}
use Rattle.cone_spec.specs.Validity.{cone_visit}
use Rattle.cone_spec.proofs.Visiting.{Alike, visits_alike, least_same, least_none}
use Rattle.rail_base.proofs.Lists.{length-map}
use Rattle.rail_base.specs.Events.{has_happened}

module _ (d : Station) (routes : List Route) (k : Cone) (plan : List (List Command)) (tick : ℕ) (t : TrainNo) (rest : List RouteNo) (prefix : path plan t ≡ free_path k t ++ rest)
    (same : (i : ℕ) → i ≤ tick → state_of (state_at d routes (of_plan routes plan) i) t ≡ state_of (state_at d routes (of_cone k) i) t)
    (few : (i : ℕ) → i ≤ tick → (state_of (state_at d routes (of_plan routes plan) i) t).granted ≤ length (free_path k t)) where
  whole : path_routes routes plan t ≡ map (route_at routes) (free_path k t) ++ map (route_at routes) rest
  whole = ap (map (route_at routes)) prefix ∙ map-append (route_at routes) (free_path k t) rest

  passed_same : (s : PathNode) → pass_tick d routes (of_plan routes plan) tick t s ≡ pass_tick d routes (of_cone k) tick t s
  passed_same s = least_same (happened_by d routes (of_plan routes plan) t s.event) (happened_by d routes (of_cone k) t s.event) tick (λ i m. ap (λ st. has_happened st s.event) (same i m))

  -- a stop of a command past the prefix is not passed
  far_not_passed : (s : PathNode) → length (map (route_at routes) (free_path k t)) < s.event.granted → pass_tick d routes (of_plan routes plan) tick t s ≡ None
  far_not_passed s far = least_none (happened_by d routes (of_plan routes plan) t s.event) tick (λ i m.
      let f = few i m in
      let b = length-map (route_at routes) (free_path k t) in
      and_false (nat_le s.event.granted (state_of (state_at d routes (of_plan routes plan) i) t).granted) (nat_le s.event.place (state_of (state_at d routes (of_plan routes plan) i) t).x) (not_up_to s.event.granted (state_of (state_at d routes (of_plan routes plan) i) t).granted (omega arith)))
    where
      and_false : (a b : Bool) → a ≡ false → (a && b) ≡ false
      and_false true b e = absurd (true≢false e)
      and_false false b e = refl

      not_up_to : (a b : ℕ) → b < a → nat_le a b ≡ false
      not_up_to a b l = at (nat_le a b) refl
        where
          at : (t : Bool) → nat_le a b ≡ t → nat_le a b ≡ false
          at false e = e
          at true e = let m = leb-true a b e in absurd (omega arith)

  pub visit_alike : (j : ℕ) → visit_tick d routes (of_plan routes plan) tick t j ≡ cone_visit d routes k tick t j
  visit_alike j = go (subst (λ rs. Alike (length (map (route_at routes) (free_path k t))) (entry None (visits_of_train d routes (of_cone k) t) j) (entry None (visits_on (train_of d t).visits (path_nodes rs)) j)) (sym whole)
      (visits_alike (train_of d t).visits (map (route_at routes) (free_path k t)) (map (route_at routes) rest) j))
    where
      each : (o : Option PathNode) → option_and_then (pass_tick d routes (of_plan routes plan) tick t) o ≡ option_and_then (pass_tick d routes (of_cone k) tick t) o
      each None = refl
      each (Some s) = passed_same s

      go : Alike (length (map (route_at routes) (free_path k t))) (entry None (visits_of_train d routes (of_cone k) t) j) (entry None (visits_of_train d routes (of_plan routes plan) t) j) → visit_tick d routes (of_plan routes plan) tick t j ≡ cone_visit d routes k tick t j
      go (inl e) = ap (option_and_then (pass_tick d routes (of_plan routes plan) tick t)) e ∙ each (entry None (visits_of_train d routes (of_cone k) t) j)
      go (inr (e, s, f, far)) = ap (option_and_then (pass_tick d routes (of_plan routes plan) tick t)) f ∙ far_not_passed s far ∙ sym (ap (option_and_then (pass_tick d routes (of_cone k) tick t)) e)
