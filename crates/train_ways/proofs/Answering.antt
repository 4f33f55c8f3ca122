-- What the numbers that are found say of a train's ways.
use Rattle.std.proofs.Common.{◌≡◌, ◌≢◌, ℕ, zero, suc, ◌+◌, ◌-◌, ◌*◌, ◌/◌, ◌≤◌, ◌<◌, ◌⊎◌, inl, inr, Bool, true, ◌==◌, All, List, filter, get_or, length, Option, Some, None, refl, sym, ap, subst, ◌∙◌, arith, eqb-true, eq-eqb, add-one}
use Rattle.std.specs.Prelude.{is_some}
use Rattle.std.proofs.Math.Nat.{suc-mul}
use Rattle.std.proofs.lemmas.Nat.{div-add-mod', div-mul-add, mul-le}
use Rattle.std.proofs.lemmas.List.{get_or_past}
use Rattle.rail_base.specs.declared.station.Station.{Station}
use Rattle.rail_base.specs.declared.station.NodeNo.{NodeNo}
use Rattle.rail_base.specs.declared.station.TrainNo.{TrainNo}
use Rattle.rail_base.specs.declared.route.Route.{Route}
use Rattle.rail_base.specs.declared.route.RouteNo.{RouteNo}
use Rattle.rail_base.specs.Members.{In}
use Rattle.rail_base.specs.Numbering.{count_from}
use Rattle.rail_base.specs.Routes.{IsRoute}
use Rattle.rail_base.specs.Stations.{train_of}
use Rattle.rail_spec.specs.Plans.{route_at, route_numbers}
use Rattle.rail_base.proofs.Members.{and_both, and_left, and_right, below_or_not, in_filter, list_any_from, list_any_gives}
use Rattle.rail_base.proofs.Lists.{in_count, in_count_back, in_filter_back, pairs_count, pairs_filter, pairs_map}
use Rattle.graph_steps.specs.Graphs.{AreLeast, AreWithin, Comes, IsLeast, IsTurned}
use Rattle.graph_steps.proofs.Leading.{all_from, turned}
use Rattle.way_spec.specs.Ways.{AreLive, CanMakeFirst, HasWay, IsFewestRoutes, IsFirstUnmade, IsLive}
use Rattle.train_ways.specs.Pairs.{all_made, graph, made, many, route_of, starts}
use Rattle.train_ways.specs.Reached.{Found, IsLeastTo, IsMostMade, is_live, is_over, live_among}
use Rattle.train_ways.proofs.Pairing.{in_numbers, made_entry, made_high, made_many, many_nodes, numbers_are, route_there}
use Rattle.train_ways.proofs.Reaching.{can_begin, can_reach, live_from, live_to, reach_can, way_from, way_to}
use Rattle.train_ways.proofs.Tallying.{it_is}

-- ---- the same of equal lists

pub most_of : (made kept : List ℕ) (xs found : List (Option ℕ)) (m : ℕ) → made ≡ kept → xs ≡ found → IsMostMade made xs (length xs) m → IsMostMade kept found (length found) m
most_of made kept xs found m a b most = subst (λ f. IsMostMade kept f (length f) m) b (subst (λ l. IsMostMade l xs (length xs) m) a most)

pub least_of : (made kept : List ℕ) (xs found : List (Option ℕ)) (all w : ℕ) (o : Option ℕ) → made ≡ kept → xs ≡ found → all ≡ w → IsLeastTo made xs all (length xs) o → IsLeastTo kept found w (length found) o
least_of made kept xs found all w o a b e least = subst (λ n. IsLeastTo kept found n (length found) o) e (subst (λ f. IsLeastTo kept f all (length f) o) b (subst (λ l. IsLeastTo l xs all (length xs) o) a least))

pub least_found : (nodes all : List (List ℕ)) (begin first : List ℕ) (found : List (Option ℕ)) → nodes ≡ all → begin ≡ first → AreLeast nodes begin found → AreLeast all first found
least_found nodes all begin first found a b least = subst (λ s. AreLeast all s found) b (subst (λ g. AreLeast g begin found) a least)

-- ---- what is found

module _ (nodes : List (List ℕ)) (begin : List ℕ) (found : List (Option ℕ)) (least : AreLeast nodes begin found) where
  pub found_inside : (p k : ℕ) → Found found p k → p < length nodes
  found_inside p k f = go (below_or_not p (length found))
    where
      go : (p < length found) ⊎ (length found ≤ p) → p < length nodes
      go (inl h) = let e = least.one_a_node in omega arith
      go (inr h) = let none = get_or_past found p None h in cc

  pub found_comes : (p k : ℕ) → Found found p k → Comes nodes begin k p
  found_comes p k f = (subst (IsLeast nodes begin p) f (least.each p (found_inside p k f))).0

  pub comes_found : (p k : ℕ) → p < length nodes → Comes nodes begin k p → (j : ℕ) × Found found p j × (j ≤ k)
  comes_found p k h c = go (get_or found p None) refl
    where
      go : (o : Option ℕ) → get_or found p None ≡ o → (j : ℕ) × Found found p j × (j ≤ k)
      go None e = absurd (subst (IsLeast nodes begin p) e (least.each p h) k c)
      go (Some j) e = (j, e, (subst (IsLeast nodes begin p) e (least.each p h)).1 k c)

module _ (d : Station) (routes : List Route) (t : TrainNo) (has : (r : RouteNo) → IsRoute routes r → 1 ≤ length (route_at routes r).nodes) (some : 1 ≤ length (train_of d t).visits) where
  abbrev sets : List (List NodeNo)
  sets = (train_of d t).visits

  nodes_many : length (graph routes sets) ≡ many routes sets
  nodes_many = many_nodes routes sets some

  module _ (kept : List ℕ) (is : kept ≡ all_made routes sets) (found : List (Option ℕ)) (least : AreLeast (graph routes sets) (starts routes sets) found) where
    made_is : (p : ℕ) → p < many routes sets → get_or kept p 0 ≡ made routes sets p
    made_is p h = made_entry routes sets kept p is (let e : length kept ≡ many routes sets = ap length is ∙ made_many routes sets in omega arith)

    inside : (p k : ℕ) → Found found p k → p < many routes sets
    inside p k f = let h = found_inside (graph routes sets) (starts routes sets) found least p k f in let e = nodes_many in omega arith

    in_found : (p : ℕ) → p < many routes sets → p < length found
    in_found p h = let e = least.one_a_node in let n = nodes_many in omega arith

    comes : (p k : ℕ) → Found found p k → Comes (graph routes sets) (starts routes sets) k p
    comes p k f = found_comes (graph routes sets) (starts routes sets) found least p k f

    reached : (p k : ℕ) → p < many routes sets → Comes (graph routes sets) (starts routes sets) k p → (j : ℕ) × Found found p j × (j ≤ k)
    reached p k h c = comes_found (graph routes sets) (starts routes sets) found least p k (let e = nodes_many in omega arith) c

    -- ---- the first visit that is not made

    module _ (m : ℕ) (most : IsMostMade kept found (length found) m) where
      pub most_within : m ≤ length sets
      most_within = go m most.there
        where
          go : (m : ℕ) → (1 ≤ m → (p : ℕ) × (p < length found) × (k : ℕ) × Found found p k × (get_or kept p 0 ≡ m)) → m ≤ length sets
          go zero there = omega arith
          go (suc m) there =
              let t = there (omega arith) in
              let e = made_is t.0 (inside t.0 t.2 t.3) in
              let h = made_high routes sets some t.0 in
              let f = t.4 in
              omega arith

      can : 1 ≤ m → (p : ℕ) × (k : ℕ) × Comes (graph routes sets) (starts routes sets) k p × (made routes sets p ≡ m)
      can low = let t = most.there low in (t.0, t.2, comes t.0 t.2 t.3, sym (made_is t.0 (inside t.0 t.2 t.3)) ∙ t.4)

      pub all_made_has_way : m ≡ length sets → HasWay d routes t
      all_made_has_way e =
          let c = can (omega arith) in
          let w = way_from d routes t has some c.1 c.0 c.2 (c.3 ∙ e) in
          (w.0, w.1)

      pub first_unmade : m ≢ length sets → IsFirstUnmade d routes t (m + 1)
      first_unmade apart = record {
        at_least_one = omega arith;
        theirs = theirs;
        before = subst (λ k. CanMakeFirst d routes t k) same (before (zero_or_not m));
        unmade = λ c. let q = can_reach d routes t has some (m + 1) (omega arith) theirs c in
            let f = reached q.0 q.1.steps q.1.inside q.1.comes_there in
            let b = most.bound q.0 f.0 (in_found q.0 q.1.inside) f.1 in
            let e = made_is q.0 q.1.inside in
            let n = q.1.enough in
            omega arith;
      }
        where
          theirs : m + 1 ≤ length sets
          theirs = let h = most_within in grind arith

          same : m ≡ m + 1 - 1
          same = omega arith

          zero_or_not : (m : ℕ) → (m ≡ 0) ⊎ (1 ≤ m)
          zero_or_not zero = inl refl
          zero_or_not (suc m) = inr (omega arith)

          before : (m ≡ 0) ⊎ (1 ≤ m) → CanMakeFirst d routes t m
          before (inl e) = subst (λ k. CanMakeFirst d routes t k) (sym e) (can_begin d routes t has some)
          before (inr low) = let c = can low in reach_can d routes t has some m c.1 c.0 low most_within c.2 (let e = c.3 in omega arith)

    -- ---- the fewest routes

    pub no_way : IsLeastTo kept found (length sets) (length found) None → HasWay d routes t → ⊥
    no_way none way =
        let w = way_to d routes t has some way.0 way.1 in
        let f = reached w.pair w.steps w.inside w.comes_there in
        none w.pair f.0 (in_found w.pair w.inside) f.1 (made_is w.pair w.inside ∙ w.all_made)

    pub fewest : (n : ℕ) → IsLeastTo kept found (length sets) (length found) (Some n) → IsFewestRoutes d routes t (n + 1)
    fewest n there =
        let p = there.0.0 in
        let c = comes p n there.0.2 in
        let w = way_from d routes t has some n p c (sym (made_is p (inside p n there.0.2)) ∙ there.0.3) in
        record {
          way = w.0;
          is_way = w.1;
          so_many = w.2 ∙ sym (add-one n);
          none_fewer = λ rs way.
              let w = way_to d routes t has some rs way in
              let f = reached w.pair w.steps w.inside w.comes_there in
              let l = there.1 w.pair f.0 (in_found w.pair w.inside) f.1 (made_is w.pair w.inside ∙ w.all_made) in
              let s = w.so_many in
              let k = f.2 in
              omega arith;
        }

    -- ---- live routes

    abbrev ending : ℕ → Bool
    ending p = get_or kept p 0 == length sets

    kept_many : length kept ≡ many routes sets
    kept_many = ap length is ∙ made_many routes sets

    end_is : (p : ℕ) → In p (filter ending (count_from 0 (length kept))) → (p < many routes sets) × (made routes sets p ≡ length sets)
    end_is p m =
        let f = in_filter_back ending (count_from 0 (length kept)) p m in
        let b = in_count_back 0 (length kept) p f.0 in
        let h : p < many routes sets = (let u = b.1 in let e = kept_many in omega arith) in
        (h, sym (made_is p h) ∙ eqb-true (get_or kept p 0) (length sets) f.1)

    end_from : (p : ℕ) → p < many routes sets → made routes sets p ≡ length sets → In p (filter ending (count_from 0 (length kept)))
    end_from p h all = in_filter ending (count_from 0 (length kept)) p (in_count 0 (length kept) p (omega arith) (let e = kept_many in omega arith)) (eq-eqb (get_or kept p 0) (length sets) (made_is p h ∙ all))

    pub ends_within : (back : List (List ℕ)) → IsTurned (graph routes sets) back → (xs : List ℕ) → xs ≡ filter ending (count_from 0 (length kept)) → All (λ p. p < length back) xs
    ends_within back turn xs e = all_from (λ p. p < length back) xs (λ p m. let b = end_is p (subst (In p) e m) in let h = b.0 in let s = turn.same_nodes in let n = nodes_many in omega arith)

    module _ (back : List (List ℕ)) (turn : IsTurned (graph routes sets) back) (ends : List ℕ) (ends_are : ends ≡ filter ending (count_from 0 (length kept))) (left : List (Option ℕ)) (least_left : AreLeast back ends left) where
      back_many : length back ≡ many routes sets
      back_many = turn.same_nodes ∙ nodes_many

      -- a pair of the route
      place : (r : RouteNo) (p : ℕ) → IsRoute routes r → In p (count_from ((r.0 - 1) * length sets) (length sets)) → route_of (length sets) p ≡ r
      place r p known m =
          let b = in_count_back ((r.0 - 1) * length sets) (length sets) p m in
          let low = b.0 in
          let high = b.1 in
          let c : p ≡ (r.0 - 1) * length sets + (p - (r.0 - 1) * length sets) = omega arith in
          let q : p / length sets ≡ r.0 - 1 = ap (λ n. n / length sets) c ∙ div-mul-add (r.0 - 1) (length sets) (p - (r.0 - 1) * length sets) (omega arith) in
          let one = known.0 in
          ap (λ n. let x : RouteNo = record { 0 = n } in x) (omega arith)

      within : (r : RouteNo) (p : ℕ) → IsRoute routes r → In p (count_from ((r.0 - 1) * length sets) (length sets)) → p < many routes sets
      within r p known m =
          let b = in_count_back ((r.0 - 1) * length sets) (length sets) p m in
          let high = b.1 in
          let low = known.0 in
          let top : r.0 * length sets ≤ length routes * length sets = mul-le r.0 (length sets) (length routes) (length sets) known.1 (omega arith) in
          let step : (r.0 - 1) * length sets + length sets ≡ r.0 * length sets = sym (suc-mul (r.0 - 1) (length sets)) ∙ ap (λ n. n * length sets) (omega arith) in
          omega arith

      of_pair : (p : ℕ) → In p (count_from (((route_of (length sets) p).0 - 1) * length sets) (length sets))
      of_pair p =
          let e = div-add-mod' p (length sets) in
          let b : (p / length sets + 1 - 1) * length sets ≡ p / length sets * length sets = ap (λ n. n * length sets) (omega arith) in
          in_count ((p / length sets + 1 - 1) * length sets) (length sets) p (omega arith) (omega arith)

      live_there : (r : RouteNo) → In r (live_among (length sets) found left routes) → IsLive d routes t r
      live_there r m =
          let f = in_filter_back (is_live (length sets) found left) (route_numbers routes) r m in
          let known = numbers_are routes r f.0 in
          let g = list_any_gives (is_over found left) (count_from ((r.0 - 1) * length sets) (length sets)) f.1 in
          let p = g.0 in
          let h = within r p known g.1 in
          let k = it_is (get_or found p None) (and_left (is_some (get_or found p None)) (is_some (get_or left p None)) g.2) in
          let j = it_is (get_or left p None) (and_right (is_some (get_or found p None)) (is_some (get_or left p None)) g.2) in
          let c = found_comes back ends left least_left p j.0 j.1 in
          let e = end_is c.0 (subst (In c.0) ends_are c.1) in
          let on = turned (graph routes sets) back (λ p q. (turn.steps p q).0) j.0 c.0 p c.2 in
          subst (IsLive d routes t) (place r p known g.1) (live_from d routes t has some k.0 p j.0 c.0 h (comes p k.0 k.1) on e.1)

      live_back : (r : RouteNo) → IsLive d routes t r → In r (live_among (length sets) found left routes)
      live_back r live =
          let o = live_to d routes t has some r live in
          let p = o.pair in
          let k = reached p o.before o.inside o.comes_there in
          let last = subst (In o.last) (sym ends_are) (end_from o.last o.last_inside o.all_made) in
          let on = turned back (graph routes sets) (λ p q. (turn.steps q p).1) o.behind p o.last o.leads_on in
          let j = comes_found back ends left least_left p o.behind (let e = back_many in let h = o.inside in omega arith) (o.last, last, on) in
          let over = and_both (is_some (get_or found p None)) (is_some (get_or left p None)) (ap is_some k.1) (ap is_some j.1) in
          let there : is_live (length sets) found left (route_of (length sets) p) ≡ true = list_any_from (is_over found left) (count_from (((route_of (length sets) p).0 - 1) * length sets) (length sets)) p (of_pair p) over in
          subst (λ x. In x (live_among (length sets) found left routes)) o.of_route (in_filter (is_live (length sets) found left) (route_numbers routes) (route_of (length sets) p) (in_numbers routes (route_of (length sets) p) (route_there routes sets some p o.inside)) there)

      pub are_live : AreLive d routes t (live_among (length sets) found left routes)
      are_live = record {
        each = λ r. (live_there r, live_back r);
        in_order = pairs_filter (λ (r q : RouteNo). r.0 < q.0) (is_live (length sets) found left) (route_numbers routes)
            (pairs_map (λ (r q : RouteNo). r.0 < q.0) (λ (m n : ℕ). m < n) (λ n. record { 0 = n }) (count_from 1 (length routes)) (λ a b h. h) (pairs_count 1 (length routes)));
      }

      pub left_many : length left ≡ length found
      left_many = let a = least_left.one_a_node in let b = least.one_a_node in let c = turn.same_nodes in omega arith

      pub found_many : length found ≡ length routes * length sets
      found_many = least.one_a_node ∙ nodes_many

-- the steps that are found are few
pub steps_few : (routes : List Route) (sets : List (List NodeNo)) (kept : List ℕ) (found : List (Option ℕ)) → AreWithin (many routes sets) found → length routes ≤ 2000 → length sets ≤ 16 → (all i n : ℕ) (made : List ℕ) (xs : List (Option ℕ)) → xs ≡ found
    → IsLeastTo made xs all i (Some n) → n ≤ 32000
steps_few routes sets kept found few many_routes many_visits all i n made xs same least =
    let f = few least.0.0 n (subst (λ f. Found f least.0.0 n) same least.0.2) in
    let m : length routes * length sets ≤ 2000 * 16 = mul-le (length routes) (length sets) 2000 16 many_routes many_visits in
    omega arith

-- the pairs at the end of ways
pub ending_of : (made kept : List ℕ) (all w : ℕ) → made ≡ kept → all ≡ w → filter (λ p. get_or made p 0 == all) (count_from 0 (length made)) ≡ filter (λ p. get_or kept p 0 == w) (count_from 0 (length kept))
ending_of made kept all w a b = ap (λ l. filter (λ p. get_or l p 0 == all) (count_from 0 (length l))) a ∙ ap (λ n. filter (λ p. get_or kept p 0 == n) (count_from 0 (length kept))) b
