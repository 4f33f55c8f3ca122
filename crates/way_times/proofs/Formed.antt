-- The plan that gives one train a way, and nothing else, is well formed.
use Rattle.std.proofs.Common.{◌≡◌, inl, inr, Bool, true, false, cond, ◌&&◌, if◌then◌else◌, nat_le, List, [], ◌∷◌, ◌++◌, map, length, refl, ap, ap₂, subst, ◌∙◌, arith, le-leb, eqb-true}
use Rattle.std.specs.List.{list_all}
use Rattle.rail_base.specs.declared.station.Station.{Station}
use Rattle.rail_base.specs.declared.station.TrainNo.{TrainNo}
use Rattle.rail_base.specs.declared.route.Route.{Route}
use Rattle.rail_base.specs.declared.route.RouteNo.{RouteNo}
use Rattle.rail_base.specs.declared.plan.Command.{Command}
use Rattle.rail_base.specs.Members.{In}
use Rattle.rail_base.specs.Routes.{IsRoute}
use Rattle.rail_base.specs.Stations.{IsTrain, train_of, trains}
use Rattle.rail_base.proofs.Lists.{length-map, list_all_from}
use Rattle.rail_base.proofs.Members.{and_both}
use Rattle.rail_spec.specs.Feasible.{IsWellFormed, is_of, names_only}
use Rattle.rail_spec.specs.Plans.{is_path, is_train, one_each, path, path_routes, route_at, routes_given}
use Rattle.plan_ways.specs.Paths.{IsPlanWay}
use Rattle.way_times.specs.Times.{plan_alone, step_alone}

-- ---- the path of each train

given_alone : (t u : TrainNo) (r : RouteNo) (b : Bool) → is_train t u ≡ b → routes_given u (record { train = t; route = r } ∷ []) ≡ (if b then r ∷ [] else [])
given_alone t u r b e = ap (λ x. map (λ (c : Command). c.route) (cond x (record { train = t; route = r } ∷ []) [])) e ∙ go b
  where
    go : (b : Bool) → map (λ (c : Command). c.route) (cond b (record { train = t; route = r } ∷ []) []) ≡ (if b then r ∷ [] else [])
    go true = refl
    go false = refl

pub path_alone : (t u : TrainNo) (rs : List RouteNo) (b : Bool) → is_train t u ≡ b → path (plan_alone t rs) u ≡ (if b then rs else [])
path_alone t u [] true e = refl
path_alone t u [] false e = refl
path_alone t u (r ∷ rs) b e = ap₂ (λ x y. x ++ y) (given_alone t u r b e) (path_alone t u rs b e) ∙ go b
  where
    go : (b : Bool) → (if b then r ∷ [] else []) ++ (if b then rs else []) ≡ (if b then r ∷ rs else [])
    go true = refl
    go false = refl

-- ---- it is well formed

module _ (d : Station) (routes : List Route) (t : TrainNo) (known : IsTrain d t) where
  names_alone : (rs : List RouteNo) → ((r : RouteNo) → In r rs → IsRoute routes r) → names_only d routes (plan_alone t rs) ≡ true
  names_alone [] named = refl
  names_alone (r ∷ rs) named =
      let is = named r (inl refl) in
      and_both (is_of d routes (record { train = t; route = r })) (names_only d routes (plan_alone t rs))
      (and_both ((nat_le 1 t.0 && nat_le t.0 (length d.trains)) && nat_le 1 r.0) (nat_le r.0 (length routes))
      (and_both (nat_le 1 t.0 && nat_le t.0 (length d.trains)) (nat_le 1 r.0)
      (and_both (nat_le 1 t.0) (nat_le t.0 (length d.trains)) (le-leb 1 t.0 known.0) (le-leb t.0 (length d.trains) known.1))
      (le-leb 1 r.0 is.0))
      (le-leb r.0 (length routes) is.1))
      (names_alone rs (λ q m. named q (inr m)))

  each_alone : (rs : List RouteNo) → list_all one_each (plan_alone t rs) ≡ true
  each_alone [] = refl
  each_alone (r ∷ rs) = each_alone rs

  same_train : (u : TrainNo) → is_train t u ≡ true → t ≡ u
  same_train u e = let same : t.0 ≡ u.0 = eqb-true t.0 u.0 e in ap (λ n. let u : TrainNo = record { 0 = n } in u) same

  module _ (rs : List RouteNo) (way : IsPlanWay d routes t rs) where
    paths_alone : (u : TrainNo) → is_path (train_of d u) (path_routes routes (plan_alone t rs) u) ≡ true
    paths_alone u = go (is_train t u) refl
      where
        go : (b : Bool) → is_train t u ≡ b → is_path (train_of d u) (path_routes routes (plan_alone t rs) u) ≡ true
        go true e =
            ap (λ l. is_path (train_of d u) (map (route_at routes) l)) (path_alone t u rs true e)
            ∙ subst (λ v. is_path (train_of d v) (map (route_at routes) rs) ≡ true) (same_train u e) way.path
        go false e = ap (λ l. is_path (train_of d u) (map (route_at routes) l)) (path_alone t u rs false e)

    pub formed_alone : IsWellFormed d routes 256 (plan_alone t rs)
    formed_alone = record {
      named = names_alone rs way.way.walk.named;
      formed = and_both (nat_le (length (plan_alone t rs)) 256 && list_all one_each (plan_alone t rs)) (list_all (λ u. is_path (train_of d u) (path_routes routes (plan_alone t rs) u)) (trains d))
          (and_both (nat_le (length (plan_alone t rs)) 256) (list_all one_each (plan_alone t rs))
          (le-leb (length (plan_alone t rs)) 256 (let long = length-map (step_alone t) rs in let few = way.few in omega arith))
          (each_alone rs))
          (list_all_from (λ u. is_path (train_of d u) (path_routes routes (plan_alone t rs) u)) (trains d) (λ u m. paths_alone u));
    }
