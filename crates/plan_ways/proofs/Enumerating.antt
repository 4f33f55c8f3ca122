-- What is known of the paths and ways that are found so far.
use Rattle.std.proofs.Common.{◌≡◌, ℕ, suc, ◌+◌, ◌-◌, ◌≤◌, ◌<◌, ◌⊎◌, inl, inr, Bool, true, ◌==◌, All, List, [], ◌∷◌, ◌++◌, filter, flat_map, length, sum_by, refl, sym, ap, subst, ◌∙◌, arith, length-append, add-one, eqb-true}
use Rattle.rail_base.specs.declared.station.Station.{Station}
use Rattle.rail_base.specs.declared.station.TrainNo.{TrainNo}
use Rattle.rail_base.specs.declared.route.Route.{Route}
use Rattle.rail_base.specs.declared.route.RouteNo.{RouteNo}
use Rattle.rail_base.specs.Routes.{IsRoute}
use Rattle.rail_base.specs.Stations.{train_of}
use Rattle.way_spec.specs.Ways.{AreLive}
use Rattle.plan_ways.specs.Paths.{AreMany, ArePlanWays, longer, makes_all, nodes_of, paths_of, paths_up_to, ways_up_to}
use Rattle.plan_ways.proofs.Pathing.{all_named, are_ways}

-- the paths of n routes, and the ways among those of up to n
pub record AreFound (d : Station) (routes : List Route) (t : TrainNo) (live : List RouteNo) (n : ℕ) (paths ways : List (List RouteNo)) (left : ℕ) : Type 0 where
  pub are_paths : paths ≡ paths_of d routes t live n
  pub are_ways : ways ≡ ways_up_to d routes t live n
  pub few : left + length (paths_up_to d routes t live n) ≡ 5000
  pub few_ways : length ways ≤ 1000
  pub within : n ≤ 256

filter_append : {X : Type 0} (test : X → Bool) (xs ys : List X) → filter test (xs ++ ys) ≡ filter test xs ++ filter test ys
filter_append test [] ys = refl
filter_append {X} test (x ∷ xs) ys = go (test x) refl (filter_append test xs ys)
  where
    go : (b : Bool) → test x ≡ b → filter test (xs ++ ys) ≡ filter test xs ++ filter test ys → filter test (x ∷ xs ++ ys) ≡ filter test (x ∷ xs) ++ filter test ys
    go b e h = grind (arith, e, h)

pub none_there : {X : Type 0} (xs : List X) → (length xs == 0) ≡ true → xs ≡ []
none_there [] e = refl
none_there (x ∷ xs) e = let none = eqb-true (length (x ∷ xs)) 0 e in absurd (omega arith)

module _ (d : Station) (routes : List Route) (t : TrainNo) (live : List RouteNo) (n left : ℕ) (paths ways : List (List RouteNo)) (f : AreFound d routes t live n paths ways left) where
  pub longer_are : (ls : List (List RouteNo)) → ls ≡ flat_map (longer d routes t live) paths → ls ≡ paths_of d routes t live (suc n)
  longer_are ls e = e ∙ ap (flat_map (longer d routes t live)) f.are_paths

  ways_are : (ls ws : List (List RouteNo)) → ls ≡ flat_map (longer d routes t live) paths → ws ≡ ways ++ filter (makes_all d routes t) ls → ws ≡ ways_up_to d routes t live (suc n)
  ways_are ls ws e w =
      w
      ∙ ap (λ xs. xs ++ filter (makes_all d routes t) ls) f.are_ways
      ∙ ap (λ xs. ways_up_to d routes t live n ++ filter (makes_all d routes t) xs) (longer_are ls e)
      ∙ sym (filter_append (makes_all d routes t) (paths_up_to d routes t live n) (paths_of d routes t live (suc n)))

  pub next_found : (ls ws : List (List RouteNo)) → n < 256 → ls ≡ flat_map (longer d routes t live) paths → length ls ≤ left → ws ≡ ways ++ filter (makes_all d routes t) ls → length ws ≤ 1000
      → AreFound d routes t live (n + 1) ls ws (left - length ls)
  next_found ls ws low e few w few_ways =
      subst (λ m. AreFound d routes t live m ls ws (left - length ls)) (sym (add-one n)) (record {
        are_paths = longer_are ls e;
        are_ways = ways_are ls ws e w;
        few = (let total = length-append (paths_up_to d routes t live n) (paths_of d routes t live (suc n)) in let long = ap length (longer_are ls e) in let so_far = f.few in omega arith);
        few_ways = few_ways;
        within = omega arith;
      })

  module _ (low : n < 256) (are : AreLive d routes t live) where
    pub many_paths : left < length (flat_map (longer d routes t live) paths) → AreMany d routes t
    many_paths h = record {
      live = live;
      are_live = are;
      most = suc n;
      within = omega arith;
      many = inl (let total = length-append (paths_up_to d routes t live n) (paths_of d routes t live (suc n)) in let long = ap length (longer_are (flat_map (longer d routes t live) paths) refl) in let so_far = f.few in omega arith);
    }

    pub many_ways : (ls ws : List (List RouteNo)) → ls ≡ flat_map (longer d routes t live) paths → ws ≡ ways ++ filter (makes_all d routes t) ls → 1000 < length ws → AreMany d routes t
    many_ways ls ws e w h = record {
      live = live;
      are_live = are;
      most = suc n;
      within = omega arith;
      many = inr (inl (subst (λ xs. 1000 < length xs) (ways_are ls ws e w) h));
    }

    pub many_nodes : (ls ws : List (List RouteNo)) → ls ≡ flat_map (longer d routes t live) paths → ws ≡ ways ++ filter (makes_all d routes t) ls → 50000 < sum_by (nodes_of routes) ws → AreMany d routes t
    many_nodes ls ws e w h = record {
      live = live;
      are_live = are;
      most = suc n;
      within = omega arith;
      many = inr (inr (subst (λ xs. 50000 < sum_by (nodes_of routes) xs) (ways_are ls ws e w) h));
    }

  module _ (are : AreLive d routes t live) (visits : 1 ≤ length (train_of d t).visits) where
    pub longer_named : (ls : List (List RouteNo)) → ls ≡ flat_map (longer d routes t live) paths → All (λ rs. All (IsRoute routes) rs) ls
    longer_named ls e = subst (All (λ rs. All (IsRoute routes) rs)) (sym (longer_are ls e)) (all_named d routes t live are visits (suc n))

    pub all_found : (n ≡ 256) ⊎ (paths ≡ []) → ArePlanWays d routes t ways
    all_found done = subst (ArePlanWays d routes t) (sym f.are_ways) (are_ways d routes t live are visits n f.within (ends done))
      where
        ends : (n ≡ 256) ⊎ (paths ≡ []) → (n ≡ 256) ⊎ (paths_of d routes t live n ≡ [])
        ends (inl e) = inl e
        ends (inr e) = inr (sym f.are_paths ∙ e)
