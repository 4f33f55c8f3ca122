-- The paths of live routes are those that a plan can give a train, and those of them that make all visits are its ways.
use Rattle.std.proofs.Common.{◌≡◌, ℕ, zero, suc, ◌+◌, ◌≤◌, ◌<◌, ◌⊎◌, inl, inr, true, false, not, ◌&&◌, All, List, [], ◌∷◌, ◌++◌, map, filter, flat_map, length, get_or, is_some, refl, sym, ap, subst, ◌∙◌, arith, true≢false, length-append}
use Rattle.std.proofs.lemmas.List.{map-append}
use Rattle.std.specs.List.{list_all}
use Rattle.rail_base.specs.declared.station.Station.{Station}
use Rattle.rail_base.specs.declared.station.TrainNo.{TrainNo}
use Rattle.rail_base.specs.declared.station.NodeNo.{NodeNo}
use Rattle.rail_base.specs.declared.route.Route.{Route}
use Rattle.rail_base.specs.declared.route.RouteNo.{RouteNo}
use Rattle.rail_base.specs.Members.{In, all_neighbors, all_pairs}
use Rattle.rail_base.specs.Routes.{IsRoute}
use Rattle.rail_base.specs.Stations.{first_visit, train_of}
use Rattle.rail_spec.specs.Plans.{begins_in, end_at_one_signal, goes_on, is_path, is_start, route_at}
use Rattle.rail_spec.specs.Places.{visits_on}
use Rattle.rail_base.proofs.Members.{and_both, and_left, and_right, below_or_not, in_filter}
use Rattle.rail_base.proofs.Contained.{in_at}
use Rattle.rail_base.proofs.Lists.{in_append, in_append_left, in_append_right, in_filter_back, in_flat_map, in_flat_map_back, in_map, in_map_back}
use Rattle.rail_plan.proofs.WellFormed.{path_more}
use Rattle.way_spec.specs.Ways.{AreLive}
use Rattle.plan_ways.specs.Paths.{ArePlanWays, IsPlanWay, longer, makes_all, may_go_on_with, paths_of, paths_up_to, ways_up_to}

-- a list with a member has a last one
pub snoc : {X : Type 0} (x : X) (xs : List X) → (ys : List X) × (y : X) × (x ∷ xs ≡ ys ++ y ∷ [])
snoc x [] = ([], x, refl)
snoc x (z ∷ zs) = let s = snoc z zs in (x ∷ s.0, s.1, ap (λ l. x ∷ l) s.2)

-- what is so of each member is so at each place
pub all_from_in : {X : Type 0} (P : X → Type 0) (xs : List X) → ((x : X) → In x xs → P x) → All P xs
all_from_in P xs h = λ k d l. h (get_or xs k d) (in_at xs k d l)

lower_or_same : (a b : ℕ) → a ≤ suc b → (a ≤ b) ⊎ (a ≡ suc b)
lower_or_same a b h = go (below_or_not b a)
  where
    go : (b < a) ⊎ (a ≤ b) → (a ≤ b) ⊎ (a ≡ suc b)
    go (inl l) = inr (omega arith)
    go (inr l) = inl l

module _ (d : Station) (routes : List Route) (t : TrainNo) (some : List RouteNo) where
  -- a path of n of the routes
  pub record IsPath (n : ℕ) (rs : List RouteNo) : Type 0 where
    pub path : is_path (train_of d t) (map (route_at routes) rs) ≡ true
    pub so_many : length rs ≡ n
    pub each : (r : RouteNo) → In r rs → In r some

  pub paths_are : (n : ℕ) (rs : List RouteNo) → In rs (paths_of d routes t some n) → IsPath n rs
  paths_are zero rs (inl e) = subst (IsPath zero) e (record { path = refl; so_many = refl; each = λ r m. absurd m })
  paths_are zero rs (inr m) = absurd m
  paths_are (suc n) rs m =
      let f = in_flat_map_back (longer d routes t some) (paths_of d routes t some n) rs m in
      let qs = f.0 in
      let g = in_map_back (λ r. qs ++ r ∷ []) (filter (may_go_on_with d routes t qs) some) rs f.2 in
      let r = g.0 in
      let k = in_filter_back (may_go_on_with d routes t qs) some r g.1 in
      let before = paths_are n qs f.1 in
      subst (IsPath (suc n)) g.2 (record {
        path = ap (is_path (train_of d t)) (map-append (route_at routes) qs (r ∷ []))
            ∙ path_more (train_of d t) (map (route_at routes) qs) (route_at routes r)
            ∙ and_both (is_path (train_of d t) (map (route_at routes) qs)) (may_go_on_with d routes t qs r) before.path k.1;
        so_many = length-append qs (r ∷ []) ∙ (let l = before.so_many in omega arith);
        each = λ q i. either q (in_append q qs (r ∷ []) i) k.0 before;
      })
    where
      either : {qs : List RouteNo} {r : RouteNo} (q : RouteNo) → In q qs ⊎ In q (r ∷ []) → In r some → IsPath n qs → In q some
      either q (inl i) k before = before.each q i
      either q (inr (inl e)) k before = subst (λ x. In x some) e k
      either q (inr (inr i)) k before = absurd i

  pub paths_have : (n : ℕ) (rs : List RouteNo) → IsPath n rs → In rs (paths_of d routes t some n)
  paths_have zero [] h = inl refl
  paths_have zero (r ∷ rs) h = absurd (let l = h.so_many in omega arith)
  paths_have (suc n) [] h = absurd (let l = h.so_many in omega arith)
  paths_have (suc n) (r ∷ rs) h = go (snoc r rs) (λ qs before. paths_have n qs before)
    where
      go : (ys : List RouteNo) × (y : RouteNo) × (r ∷ rs ≡ ys ++ y ∷ []) → ((qs : List RouteNo) → IsPath n qs → In qs (paths_of d routes t some n)) → In (r ∷ rs) (paths_of d routes t some (suc n))
      go s shorter =
          let qs = s.0 in
          let q = s.1 in
          let long : length qs ≡ n = (let a = sym (ap length s.2 ∙ length-append qs (q ∷ [])) in let b = h.so_many in omega arith) in
          let whole : (is_path (train_of d t) (map (route_at routes) qs) && may_go_on_with d routes t qs q) ≡ true =
          sym (path_more (train_of d t) (map (route_at routes) qs) (route_at routes q))
          ∙ ap (is_path (train_of d t)) (sym (map-append (route_at routes) qs (q ∷ [])))
          ∙ ap (λ l. is_path (train_of d t) (map (route_at routes) l)) (sym s.2)
          ∙ h.path in
          let before : IsPath n qs = record {
            path = and_left (is_path (train_of d t) (map (route_at routes) qs)) (may_go_on_with d routes t qs q) whole;
            so_many = long;
            each = λ x i. h.each x (subst (In x) (sym s.2) (in_append_left x qs (q ∷ []) i));
          } in
          let last : In q some = h.each q (subst (In q) (sym s.2) (in_append_right q qs (q ∷ []) (inl refl))) in
          subst (λ l. In l (paths_of d routes t some (suc n))) (sym s.2)
          (in_flat_map (longer d routes t some) (paths_of d routes t some n) qs (qs ++ q ∷ []) (shorter qs before)
          (in_map (λ x. qs ++ x ∷ []) (filter (may_go_on_with d routes t qs) some) q
          (in_filter (may_go_on_with d routes t qs) some q last (and_right (is_path (train_of d t) (map (route_at routes) qs)) (may_go_on_with d routes t qs q) whole))))

  -- ---- those of up to n routes

  pub up_to_is : (n : ℕ) (rs : List RouteNo) → In rs (paths_up_to d routes t some n) → (k : ℕ) × In rs (paths_of d routes t some k) × (k ≤ n)
  up_to_is zero rs m = absurd m
  up_to_is (suc n) rs m = go (in_append rs (paths_up_to d routes t some n) (paths_of d routes t some (suc n)) m) (λ i. up_to_is n rs i)
    where
      go : In rs (paths_up_to d routes t some n) ⊎ In rs (paths_of d routes t some (suc n))
          → (In rs (paths_up_to d routes t some n) → (k : ℕ) × In rs (paths_of d routes t some k) × (k ≤ n))
          → (k : ℕ) × In rs (paths_of d routes t some k) × (k ≤ suc n)
      go (inl i) before = let u = before i in (u.0, u.1, (let l = u.2 in omega arith))
      go (inr i) before = (suc n, i, omega arith)

  pub up_to_has : (n k : ℕ) (rs : List RouteNo) → 1 ≤ k → k ≤ n → In rs (paths_of d routes t some k) → In rs (paths_up_to d routes t some n)
  up_to_has zero k rs low high i = absurd (omega arith)
  up_to_has (suc n) k rs low high i = go (lower_or_same k n high) (λ l. up_to_has n k rs low l i)
    where
      go : (k ≤ n) ⊎ (k ≡ suc n) → (k ≤ n → In rs (paths_up_to d routes t some n)) → In rs (paths_up_to d routes t some (suc n))
      go (inl l) before = in_append_left rs (paths_up_to d routes t some n) (paths_of d routes t some (suc n)) (before l)
      go (inr e) before = in_append_right rs (paths_up_to d routes t some n) (paths_of d routes t some (suc n)) (subst (λ m. In rs (paths_of d routes t some m)) e i)

  -- where there are none of n routes there are none of more
  pub none_after : (n m : ℕ) → n ≤ m → paths_of d routes t some n ≡ [] → paths_of d routes t some m ≡ []
  none_after n zero l h = let same : n ≡ 0 = omega arith in subst (λ k. paths_of d routes t some k ≡ []) same h
  none_after n (suc m) l h = go (lower_or_same n m l) (λ low. none_after n m low h)
    where
      go : (n ≤ m) ⊎ (n ≡ suc m) → (n ≤ m → paths_of d routes t some m ≡ []) → paths_of d routes t some (suc m) ≡ []
      go (inl low) before = ap (flat_map (longer d routes t some)) (before low)
      go (inr same) before = subst (λ k. paths_of d routes t some k ≡ []) same h

  -- ---- the ways among them

  module _ (are : AreLive d routes t some) (visits : 1 ≤ length (train_of d t).visits) where
    named : (r : RouteNo) → In r some → IsRoute routes r
    named r m = let live = (are.each r).0 m in live.1.walk.named r live.2

    -- the routes of each path are there
    pub all_named : (n : ℕ) → All (λ rs. All (IsRoute routes) rs) (paths_of d routes t some n)
    all_named n = all_from_in (λ rs. All (IsRoute routes) rs) (paths_of d routes t some n) (λ rs m.
        let is = paths_are n rs m in
        all_from_in (IsRoute routes) rs (λ r i. named r (is.each r i)))

    is_way : (rs : List RouteNo) (k : ℕ) → k ≤ 256 → IsPath k rs → makes_all d routes t rs ≡ true → IsPlanWay d routes t rs
    is_way rs k high h all =
        let path = h.path in
        let tr = train_of d t in
        let given = map (route_at routes) rs in
        let begins = begins_in (first_visit tr) given in
        let goes = all_neighbors (λ r q. goes_on r.finish q.start) given in
        let starts = all_pairs (λ r q. not (is_start r.start q.start)) given in
        let ends = all_pairs (λ r q. not (end_at_one_signal r.finish q.finish)) given in
        let first = and_left (begins && goes) starts (and_left ((begins && goes) && starts) ends path) in
        record {
          way = record {
            walk = record { named = λ r m. named r (h.each r m); begins = and_left begins goes first; goes_on = and_right begins goes first };
            makes_all = all;
          };
          path = path;
          few = (let l = h.so_many in omega arith);
        }

    not_empty : (rs : List RouteNo) → makes_all d routes t rs ≡ true → 1 ≤ length rs
    not_empty (r ∷ rs) h = omega arith
    not_empty [] h = go (train_of d t).visits refl visits h
      where
        go : (sets : List (List NodeNo)) → (train_of d t).visits ≡ sets → 1 ≤ length sets → list_all is_some (visits_on sets []) ≡ true → 1 ≤ 0
        go [] e low h = absurd (omega arith)
        go (set ∷ sets) e low h = absurd (true≢false (sym h))

    pub are_ways : (n : ℕ) → n ≤ 256 → (n ≡ 256) ⊎ (paths_of d routes t some n ≡ []) → ArePlanWays d routes t (ways_up_to d routes t some n)
    are_ways n high done rs = (to, from)
      where
        to : In rs (ways_up_to d routes t some n) → IsPlanWay d routes t rs
        to m =
            let f = in_filter_back (makes_all d routes t) (paths_up_to d routes t some n) rs m in
            let p = up_to_is n rs f.0 in
            is_way rs p.0 (let l = p.2 in omega arith) (paths_are p.0 rs p.1) f.1

        from : IsPlanWay d routes t rs → In rs (ways_up_to d routes t some n)
        from w = in_filter (makes_all d routes t) (paths_up_to d routes t some n) rs within w.way.makes_all
          where
            there : In rs (paths_of d routes t some (length rs))
            there = paths_have (length rs) rs (record { path = w.path; so_many = refl; each = λ r m. (are.each r).1 (rs, w.way, m) })

            few : (n < length rs) ⊎ (length rs ≤ n) → (n ≡ 256) ⊎ (paths_of d routes t some n ≡ []) → In rs (paths_up_to d routes t some n)
            few (inr l) whichever = up_to_has n (length rs) rs (not_empty rs w.way.makes_all) l there
            few (inl l) (inl e) = absurd (let m = w.few in omega arith)
            few (inl l) (inr none) =
                absurd (subst (In rs) (none_after n (length rs) (omega arith) none) there)

            within : In rs (paths_up_to d routes t some n)
            within = few (below_or_not n (length rs)) done
