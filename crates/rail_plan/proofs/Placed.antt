-- When a train's command in a step is right after the steps before it.
use Rattle.std.proofs.Common.{◌≡◌, ℕ, ◌+◌, ◌-◌, ◌<◌, Bool, true, false, not, cond, ◌&&◌, ◌||◌, List, [], ◌∷◌, map, filter, length, take, get_or, None, Some, refl, ap, ◌∙◌, arith}
use Rattle.std.specs.List.{list_all}
use Rattle.std.proofs.lemmas.List.{map-append}
use Rattle.std.proofs.lemmas.List.Folds.{list_all-append}
use Rattle.rail_base.specs.declared.station.Train.{Train}
use Rattle.rail_base.specs.declared.station.TrainNo.{TrainNo}
use Rattle.rail_base.specs.declared.route.Route.{Route}
use Rattle.rail_base.specs.declared.route.RouteNo.{RouteNo}
use Rattle.rail_base.specs.declared.plan.Command.{Command}
use Rattle.rail_base.specs.Numbering.{entry, first_of_list}
use Rattle.rail_base.specs.Stations.{trains}
use Rattle.rail_base.specs.declared.station.Station.{Station}
use Rattle.rail_spec.specs.Plans.{is_train, route_at, routes_given, path, path_routes}
use Rattle.rail_plan.specs.WellFormed.{are_apart, is_apart, is_placed, may_follow, may_go_on, misplaced_in}
use Rattle.rail_plan.proofs.Firsts.{entry_read}

-- a test of those kept, as a test of all
list_all-kept : {X Y : Type 0} (test : Y → Bool) (f : X → Y) (keep : X → Bool) (xs : List X) → list_all test (map f (filter keep xs)) ≡ list_all (λ x. not (keep x) || test (f x)) xs
list_all-kept test f keep [] = refl
list_all-kept {X} {Y} test f keep (x ∷ xs) = go (keep x) (list_all-kept test f keep xs)
  where
    go : (b : Bool) → list_all test (map f (filter keep xs)) ≡ list_all (λ x. not (keep x) || test (f x)) xs → list_all test (map f (cond b (x ∷ filter keep xs) (filter keep xs))) ≡ ((not b || test (f x)) && list_all (λ x. not (keep x) || test (f x)) xs)
    go true e = ap (λ b. test (f x) && b) e
    go false e = e

module _ (routes : List Route) (t : TrainNo) (r : Route) where
  step_apart : (step : List Command) → list_all (λ q. are_apart q r) (map (route_at routes) (routes_given t step)) ≡ list_all (is_apart routes t r) step
  step_apart step = ap (list_all (λ q. are_apart q r)) (map_twice (filter (λ (c : Command). is_train c.train t) step)) ∙ list_all-kept (λ q. are_apart q r) (λ (c : Command). route_at routes c.route) (λ (c : Command). is_train c.train t) step
    where
      map_twice : (cs : List Command) → map (route_at routes) (map (λ (c : Command). c.route) cs) ≡ map (λ (c : Command). route_at routes c.route) cs
      map_twice [] = refl
      map_twice (c ∷ cs) = ap (λ qs. route_at routes c.route ∷ qs) (map_twice cs)

  -- routes that are apart, step by step
  pub all_apart : (steps : List (List Command)) → list_all (λ q. are_apart q r) (path_routes routes steps t) ≡ list_all (λ step. list_all (is_apart routes t r) step) steps
  all_apart [] = refl
  all_apart (step ∷ steps) =
      ap (list_all (λ q. are_apart q r)) (map-append (route_at routes) (routes_given t step) (path steps t))
      ∙ list_all-append (λ q. are_apart q r) (map (route_at routes) (routes_given t step)) (path_routes routes steps t)
      ∙ ap (λ b. b && list_all (λ q. are_apart q r) (path_routes routes steps t)) (step_apart step)
      ∙ ap (λ b. list_all (is_apart routes t r) step && b) (all_apart steps)

module _ (t : Train) (before : List Route) (f : RouteNo → Route) where
  pub placed_none : (given : List RouteNo) → None ≡ first_of_list given → may_go_on t before (map f given) ≡ true
  placed_none [] e = refl
  placed_none (r ∷ rs) e = cc

  pub placed_one : (given : List RouteNo) (r : RouteNo) → Some r ≡ first_of_list given → length given ≡ 1 → may_go_on t before (map f given) ≡ may_follow t before (f r)
  placed_one [] r e n = cc
  placed_one (q ∷ []) r e n = let same : q ≡ r = cc in ap (λ p. may_follow t before (f p)) same
  placed_one (q ∷ p ∷ rs) r e n = absurd (omega arith)

  pub placed_more : (given : List RouteNo) (r : RouteNo) → Some r ≡ first_of_list given → (length given ≡ 1 → ⊥) → may_go_on t before (map f given) ≡ false
  placed_more [] r e n = cc
  placed_more (q ∷ []) r e n = absurd (n refl)
  placed_more (q ∷ p ∷ rs) r e n = refl

-- the trains that are misplaced in a step, by its index
pub misplaced_here : (d : Station) (routes : List Route) (plan : List (List Command)) (i : ℕ) (step : List Command) → i < length plan → step ≡ get_or plan i step
    → misplaced_in d routes plan (i + 1) ≡ filter (λ t. not (is_placed d routes (take i plan) step t)) (trains d)
misplaced_here d routes plan i step h e =
    let back : (i + 1) - 1 ≡ i = omega arith in
    ap (λ n. filter (λ t. not (is_placed d routes (take n plan) (entry [] plan (i + 1)) t)) (trains d)) back
    ∙ ap (λ s. filter (λ t. not (is_placed d routes (take i plan) s t)) (trains d)) (entry_read [] plan i step h e)
