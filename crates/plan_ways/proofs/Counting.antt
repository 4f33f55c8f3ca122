-- All visits are made on routes in a row exactly where as many are made as there are.
use Rattle.std.proofs.Common.{◌≡◌, ℕ, ◌≤◌, Bool, true, false, ◌==◌, nat_le, All, map, List, [], ◌∷◌, length, refl, sym, ap, ◌∙◌, arith, true≢false, eqb-true, eq-eqb, leb-true, leb-false}
use Rattle.std.specs.Prelude.{is_some}
use Rattle.std.proofs.lemmas.List.{take_all}
use Rattle.std.specs.List.{list_all}
use Rattle.rail_base.specs.declared.station.NodeNo.{NodeNo}
use Rattle.rail_base.specs.declared.route.Route.{Route}
use Rattle.rail_base.specs.declared.route.RouteNo.{RouteNo}
use Rattle.rail_base.specs.declared.station.Station.{Station}
use Rattle.rail_base.specs.declared.station.TrainNo.{TrainNo}
use Rattle.rail_base.specs.Routes.{IsRoute, route_at}
use Rattle.rail_base.specs.Stations.{train_of}
use Rattle.rail_spec.specs.Places.{path_nodes, visits_on}
use Rattle.way_spec.proofs.Paths.{length-on}
use Rattle.train_ways.specs.Pairs.{made_behind}
use Rattle.train_ways.proofs.Visiting.{first_made, made_after}
use Rattle.plan_ways.specs.Paths.{makes_all}
use Rattle.plan_ways.specs.Visits.{made_along}

after_is_along : (sets : List (List NodeNo)) (rs : List Route) (j : ℕ) → made_after sets rs j ≡ made_along sets rs j
after_is_along sets [] j = refl
after_is_along sets (r ∷ rs) j = after_is_along sets rs (made_behind sets r j)

all_or_fewer : (n m : ℕ) → m ≤ n → nat_le n m ≡ (m == n)
all_or_fewer n m low = go (nat_le n m) refl (m == n) refl
  where
    go : (a : Bool) → nat_le n m ≡ a → (b : Bool) → (m == n) ≡ b → nat_le n m ≡ (m == n)
    go true x true y = x ∙ sym y
    go false x false y = x ∙ sym y
    go true x false y = let l = leb-true n m x in let same : m ≡ n = omega arith in absurd (true≢false (sym (eq-eqb m n same) ∙ y))
    go false x true y = let l = leb-false n m x in let same = eqb-true m n y in absurd (omega arith)

pub makes_all_is : (sets : List (List NodeNo)) (r : Route) (rs : List Route) → 1 ≤ length r.nodes → 1 ≤ length sets → made_along sets (r ∷ rs) 1 ≤ length sets
    → list_all is_some (visits_on sets (path_nodes (r ∷ rs))) ≡ (made_along sets (r ∷ rs) 1 == length sets)
makes_all_is sets r rs nodes some within =
    let all = visits_on sets (path_nodes (r ∷ rs)) in
    let long = length-on sets (path_nodes (r ∷ rs)) in
    ap (list_all is_some) (sym (take_all (length sets) all (omega arith)))
    ∙ first_made sets r rs (length sets) nodes some (omega arith)
    ∙ ap (nat_le (length sets)) (after_is_along sets (r ∷ rs) 1)
    ∙ all_or_fewer (length sets) (made_along sets (r ∷ rs) 1) within

module _ (d : Station) (routes : List Route) (t : TrainNo) (nodes : (r : RouteNo) → IsRoute routes r → 1 ≤ length (route_at routes r).nodes) (some : 1 ≤ length (train_of d t).visits) where
  pub all_made : (path : List RouteNo) → All (IsRoute routes) path → (length path == 0) ≡ false → made_along (train_of d t).visits (map (route_at routes) path) 1 ≤ length (train_of d t).visits
      → makes_all d routes t path ≡ (made_along (train_of d t).visits (map (route_at routes) path) 1 == length (train_of d t).visits)
  all_made [] named e within = absurd (true≢false e)
  all_made (r ∷ rs) named e within = makes_all_is (train_of d t).visits (route_at routes r) (map (route_at routes) rs) (nodes r (named 0 r (omega arith))) some within

  pub none_made : (path : List RouteNo) → (length path == 0) ≡ true → makes_all d routes t path ≡ false
  none_made (r ∷ rs) e = let none = eqb-true (length (r ∷ rs)) 0 e in absurd (omega arith)
  none_made [] e = go (train_of d t).visits some
    where
      go : (sets : List (List NodeNo)) → 1 ≤ length sets → list_all is_some (visits_on sets []) ≡ false
      go [] low = absurd (omega arith)
      go (set ∷ sets) low = refl
