-- Walks of a train are walks over pairs.
use Rattle.std.proofs.Common.{◌≡◌, ℕ, zero, suc, ◌≤◌, ◌<◌, inl, inr, Bool, true, nat_le, List, [], ◌∷◌, ◌++◌, map, length, take, refl, sym, ap, subst, ◌∙◌, arith, leb-true, le-leb}
use Rattle.std.specs.Prelude.{is_some}
use Rattle.std.specs.List.{list_all}
use Rattle.std.proofs.lemmas.List.{take_all}
use Rattle.rail_base.specs.declared.station.Station.{Station}
use Rattle.rail_base.specs.declared.station.NodeNo.{NodeNo}
use Rattle.rail_base.specs.declared.station.TrainNo.{TrainNo}
use Rattle.rail_base.specs.declared.route.Route.{Route}
use Rattle.rail_base.specs.declared.route.RouteNo.{RouteNo}
use Rattle.rail_base.specs.Members.{In, all_neighbors}
use Rattle.rail_base.specs.Routes.{IsRoute}
use Rattle.rail_base.specs.Stations.{train_of}
use Rattle.rail_spec.specs.Plans.{goes_on, route_at}
use Rattle.rail_spec.specs.Places.{path_nodes, visits_on}
use Rattle.rail_base.proofs.Members.{and_both, and_left, and_right}
use Rattle.rail_base.proofs.Lists.{in_append_left}
use Rattle.graph_steps.specs.Graphs.{Comes, Leads}
use Rattle.way_spec.specs.Ways.{CanMakeFirst, IsLive, IsWalk, IsWay, MakesFirst, visits_along}
use Rattle.way_spec.proofs.Paths.{length-on}
use Rattle.train_ways.specs.Pairs.{begins, graph, made, made_before, many, pair_of, route_of, starts}
use Rattle.train_ways.proofs.Visiting.{first_made, made_after}
use Rattle.train_ways.proofs.Pairing.{made_back, made_high, made_low, next_from, next_is, pair_within, route_back, start_from, start_is}

-- each of these routes goes on where the one before ends, the first where this one does
abbrev pub Chain : List Route → RouteNo → List RouteNo → Type 0
Chain routes r [] = Unit {0}
Chain routes r (q ∷ qs) = IsRoute routes q × (goes_on (route_at routes r).finish (route_at routes q).start ≡ true) × Chain routes q qs

-- ---- walks over pairs

module _ (routes : List Route) (sets : List (List NodeNo)) (some : 1 ≤ length sets) where
  abbrev w : ℕ
  w = length sets

  abbrev route : ℕ → RouteNo
  route p = route_of w p

  -- the pair to which these routes lead from a pair
  abbrev pub last_of : ℕ → List RouteNo → ℕ
  last_of p [] = p
  last_of p (q ∷ qs) = last_of (pair_of w q (made routes sets p)) qs

  after : (p : ℕ) (q : RouteNo) → IsRoute routes q → route (pair_of w q (made routes sets p)) ≡ q
  after p q is = route_back routes sets some q (made routes sets p) is.0 (made_low routes sets some p) (made_high routes sets some p)

  within : (p : ℕ) (q : RouteNo) → IsRoute routes q → pair_of w q (made routes sets p) < many routes sets
  within p q is = pair_within routes sets some q (made routes sets p) is (made_low routes sets some p) (made_high routes sets some p)

  pub along : (p : ℕ) (qs : List RouteNo) → p < many routes sets → Chain routes (route p) qs → Leads (graph routes sets) (length qs) p (last_of p qs)
  along p [] h c = refl
  along p (q ∷ qs) h c = (
    pair_of w q (made routes sets p),
    next_from routes sets some p q h c.0 c.1,
    along (pair_of w q (made routes sets p)) qs (within p q c.0) (subst (λ x. Chain routes x qs) (sym (after p q c.0)) c.2),
  )

  pub total : (p : ℕ) (qs : List RouteNo) → Chain routes (route p) qs → made routes sets (last_of p qs) ≡ made_after sets (map (route_at routes) (route p ∷ qs)) (made_before w p)
  total p [] c = refl
  total p (q ∷ qs) c =
      total (pair_of w q (made routes sets p)) qs (subst (λ x. Chain routes x qs) (sym (after p q c.0)) c.2)
      ∙ ap (λ x. made_after sets (map (route_at routes) (x ∷ qs)) (made_before w (pair_of w q (made routes sets p)))) (after p q c.0)
      ∙ ap (made_after sets (map (route_at routes) (q ∷ qs))) (made_back routes sets some q (made routes sets p) (made_low routes sets some p) (made_high routes sets some p))

  pub back : (k p q : ℕ) → p < many routes sets → Leads (graph routes sets) k p q → (qs : List RouteNo) × (length qs ≡ k) × Chain routes (route p) qs × (q ≡ last_of p qs)
  back zero p q h l = ([], refl, tt, sym l)
  back (suc k) p q h l =
      let n = next_is routes sets some p l.0 l.1 in
      let inside : l.0 < many routes sets = subst (λ x. x < many routes sets) (sym n.3) (within p n.0 n.1) in
      let more = back k l.0 q inside l.2 in
      let same : route l.0 ≡ n.0 = ap route n.3 ∙ after p n.0 n.1 in
      (n.0 ∷ more.0, ap suc more.1, (n.1, n.2, subst (λ x. Chain routes x more.0) same more.2), more.3 ∙ ap (λ x. last_of x more.0) n.3)

  pub last_within : (p : ℕ) (qs : List RouteNo) → p < many routes sets → Chain routes (route p) qs → last_of p qs < many routes sets
  last_within p [] h c = h
  last_within p (q ∷ qs) h c = last_within (pair_of w q (made routes sets p)) qs (within p q c.0) (subst (λ x. Chain routes x qs) (sym (after p q c.0)) c.2)

  -- the last route stands among them
  pub last_in : (p : ℕ) (qs : List RouteNo) → Chain routes (route p) qs → In (route (last_of p qs)) (route p ∷ qs)
  last_in p [] c = inl refl
  last_in p (q ∷ qs) c = inr (subst (λ x. In (route (last_of (pair_of w q (made routes sets p)) qs)) (x ∷ qs)) (after p q c.0) (last_in (pair_of w q (made routes sets p)) qs (subst (λ x. Chain routes x qs) (sym (after p q c.0)) c.2)))

  -- further routes behind some
  pub joined : (p : ℕ) (qs more : List RouteNo) → Chain routes (route p) qs → Chain routes (route (last_of p qs)) more → Chain routes (route p) (qs ++ more)
  joined p [] more c e = e
  joined p (q ∷ qs) more c e = (c.0, c.1, subst (λ x. Chain routes x (qs ++ more)) (after p q c.0) (joined (pair_of w q (made routes sets p)) qs more (subst (λ x. Chain routes x qs) (sym (after p q c.0)) c.2) e))

  pub last_joined : (p : ℕ) (qs more : List RouteNo) → last_of p (qs ++ more) ≡ last_of (last_of p qs) more
  last_joined p [] more = refl
  last_joined p (q ∷ qs) more = last_joined (pair_of w q (made routes sets p)) qs more

  -- where a route stands among them, they lead over a pair of it
  pub record Over (r : RouteNo) (p q : ℕ) : Type 0 where
    pub pair : ℕ
    pub inside : pair < many routes sets
    pub of_route : route pair ≡ r
    pub before : ℕ
    pub to_pair : Leads (graph routes sets) before p pair
    pub behind : ℕ
    pub from_pair : Leads (graph routes sets) behind pair q

  pub over : (r : RouteNo) (p : ℕ) (qs : List RouteNo) → p < many routes sets → Chain routes (route p) qs → In r (route p ∷ qs) → Over r p (last_of p qs)
  over r p qs h c (inl e) = record { pair = p; inside = h; of_route = e; before = 0; to_pair = refl; behind = length qs; from_pair = along p qs h c }
  over r p [] h c (inr m) = absurd m
  over r p (q ∷ qs) h c (inr m) =
      let p' = pair_of w q (made routes sets p) in
      let o = over r p' qs (within p q c.0) (subst (λ x. Chain routes x qs) (sym (after p q c.0)) c.2) (subst (λ x. In r (x ∷ qs)) (sym (after p q c.0)) m) in
      record { pair = o.pair; inside = o.inside; of_route = o.of_route; before = suc o.before; to_pair = (p', next_from routes sets some p q h c.0 c.1, o.to_pair); behind = o.behind; from_pair = o.from_pair }

-- ---- walks of a train

module _ (d : Station) (routes : List Route) (t : TrainNo) (has : (r : RouteNo) → IsRoute routes r → 1 ≤ length (route_at routes r).nodes) (some : 1 ≤ length (train_of d t).visits) where
  abbrev sets : List (List NodeNo)
  sets = (train_of d t).visits

  abbrev first : RouteNo → ℕ
  first r = pair_of (length sets) r 1

  abbrev test : Route → Route → Bool
  test r q = goes_on r.finish q.start

  chain_of : (r : RouteNo) (qs : List RouteNo) → ((q : RouteNo) → In q qs → IsRoute routes q) → all_neighbors test (map (route_at routes) (r ∷ qs)) ≡ true → Chain routes r qs
  chain_of r [] named h = tt
  chain_of r (q ∷ qs) named h = (
    named q (inl refl),
    and_left (test (route_at routes r) (route_at routes q)) (all_neighbors test (map (route_at routes) (q ∷ qs))) h,
    chain_of q qs (λ x m. named x (inr m)) (and_right (test (route_at routes r) (route_at routes q)) (all_neighbors test (map (route_at routes) (q ∷ qs))) h),
  )

  chain_follows : (r : RouteNo) (qs : List RouteNo) → Chain routes r qs → all_neighbors test (map (route_at routes) (r ∷ qs)) ≡ true
  chain_follows r [] c = refl
  chain_follows r (q ∷ qs) c = and_both (test (route_at routes r) (route_at routes q)) (all_neighbors test (map (route_at routes) (q ∷ qs))) c.1 (chain_follows q qs c.2)

  chain_named : (r : RouteNo) (qs : List RouteNo) → Chain routes r qs → (q : RouteNo) → In q qs → IsRoute routes q
  chain_named r [] c q m = absurd m
  chain_named r (x ∷ xs) c q (inl e) = subst (IsRoute routes) e c.0
  chain_named r (x ∷ xs) c q (inr m) = chain_named x xs c.2 q m

  -- a walk that is not empty, with the pair to which it leads
  pub record Walked (r : RouteNo) (qs : List RouteNo) : Type 0 where
    pub is : IsRoute routes r
    pub begins_there : begins routes sets r ≡ true
    pub chain : Chain routes (route_of (length sets) (first r)) qs

  first_is : (r : RouteNo) → IsRoute routes r → route_of (length sets) (first r) ≡ r
  first_is r is = route_back routes sets some r 1 is.0 (omega arith) some

  pub walked : (r : RouteNo) (qs : List RouteNo) → IsWalk d routes t (r ∷ qs) → Walked r qs
  walked r qs walk =
      let is = walk.named r (inl refl) in
      record { is = is; begins_there = walk.begins; chain = subst (λ x. Chain routes x qs) (sym (first_is r is)) (chain_of r qs (λ q m. walk.named q (inr m)) walk.goes_on) }

  pub is_walk : (r : RouteNo) (qs : List RouteNo) → Walked r qs → IsWalk d routes t (r ∷ qs)
  is_walk r qs walk =
      let chain = subst (λ x. Chain routes x qs) (first_is r walk.is) walk.chain in
      record { named = λ q m. named q m chain; begins = walk.begins_there; goes_on = chain_follows r qs chain }
    where
      named : (q : RouteNo) → In q (r ∷ qs) → Chain routes r qs → IsRoute routes q
      named q (inl e) c = subst (IsRoute routes) e walk.is
      named q (inr m) c = chain_named r qs c q m

  abbrev pub end_of : RouteNo → List RouteNo → ℕ
  end_of r qs = last_of routes sets some (first r) qs

  start_within : (r : RouteNo) → IsRoute routes r → first r < many routes sets
  start_within r is = pair_within routes sets some r 1 is (omega arith) some

  pub comes : (r : RouteNo) (qs : List RouteNo) → Walked r qs → Comes (graph routes sets) (starts routes sets) (length qs) (end_of r qs)
  comes r qs walk = (first r, start_from routes sets some r walk.is walk.begins_there, along routes sets some (first r) qs (start_within r walk.is) walk.chain)

  pub end_within : (r : RouteNo) (qs : List RouteNo) → Walked r qs → end_of r qs < many routes sets
  end_within r qs walk = last_within routes sets some (first r) qs (start_within r walk.is) walk.chain

  pub record CameBy (k q : ℕ) : Type 0 where
    pub route : RouteNo
    pub more : List RouteNo
    pub walk : Walked route more
    pub so_many : length more ≡ k
    pub ends_there : q ≡ end_of route more

  pub came : (k q : ℕ) → Comes (graph routes sets) (starts routes sets) k q → CameBy k q
  came k q c =
      let s = start_is routes sets some c.0 c.1 in
      let b = back routes sets some k (first s.0) q (start_within s.0 s.1) (subst (λ p. Leads (graph routes sets) k p q) s.3 c.2) in
      record { route = s.0; more = b.0; walk = record { is = s.1; begins_there = s.2; chain = b.2 }; so_many = b.1; ends_there = b.3 }

  -- ---- the visits on them

  pub count_is : (r : RouteNo) (qs : List RouteNo) → Walked r qs → made routes sets (end_of r qs) ≡ made_after sets (map (route_at routes) (r ∷ qs)) 1
  count_is r qs walk =
      total routes sets some (first r) qs walk.chain
      ∙ ap (λ x. made_after sets (map (route_at routes) (x ∷ qs)) (made_before (length sets) (first r))) (first_is r walk.is)
      ∙ ap (made_after sets (map (route_at routes) (r ∷ qs))) (made_back routes sets some r 1 (omega arith) some)

  tested : (k : ℕ) (r : RouteNo) (qs : List RouteNo) → 1 ≤ k → k ≤ length sets → Walked r qs → list_all is_some (take k (visits_along d routes t (r ∷ qs))) ≡ nat_le k (made routes sets (end_of r qs))
  tested k r qs low high walk = first_made sets (route_at routes r) (map (route_at routes) qs) k (has r walk.is) low high ∙ ap (nat_le k) (sym (count_is r qs walk))

  pub makes_first : (k : ℕ) (r : RouteNo) (qs : List RouteNo) → 1 ≤ k → k ≤ length sets → Walked r qs → k ≤ made routes sets (end_of r qs) → MakesFirst d routes t k (r ∷ qs)
  makes_first k r qs low high walk h = tested k r qs low high walk ∙ le-leb k (made routes sets (end_of r qs)) h

  pub made_first : (k : ℕ) (r : RouteNo) (qs : List RouteNo) → 1 ≤ k → k ≤ length sets → Walked r qs → MakesFirst d routes t k (r ∷ qs) → k ≤ made routes sets (end_of r qs)
  made_first k r qs low high walk h = leb-true k (made routes sets (end_of r qs)) (sym (tested k r qs low high walk) ∙ h)

  all_taken : (rs : List RouteNo) → take (length sets) (visits_along d routes t rs) ≡ visits_along d routes t rs
  all_taken rs = take_all (length sets) (visits_along d routes t rs) (let l = length-on sets (path_nodes (map (route_at routes) rs)) in omega arith)

  pub is_way : (r : RouteNo) (qs : List RouteNo) → Walked r qs → made routes sets (end_of r qs) ≡ length sets → IsWay d routes t (r ∷ qs)
  is_way r qs walk h = record {
    walk = is_walk r qs walk;
    makes_all = ap (list_all is_some) (sym (all_taken (r ∷ qs))) ∙ makes_first (length sets) r qs some (omega arith) walk (omega arith);
  }

  pub makes_all : (r : RouteNo) (qs : List RouteNo) → IsWay d routes t (r ∷ qs) → made routes sets (end_of r qs) ≡ length sets
  makes_all r qs way =
      let walk = walked r qs way.walk in
      let low = made_first (length sets) r qs some (omega arith) walk (ap (list_all is_some) (all_taken (r ∷ qs)) ∙ way.makes_all) in
      let high = made_high routes sets some (end_of r qs) in
      omega arith

  -- on no route no visit is made
  pub not_empty : (k : ℕ) → 1 ≤ k → MakesFirst d routes t k [] → ⊥
  not_empty k low h = go sets k some low h
    where
      go : (sets : List (List NodeNo)) (k : ℕ) → 1 ≤ length sets → 1 ≤ k → list_all is_some (take k (visits_on sets [])) ≡ true → ⊥
      go [] k s l h = absurd (omega arith)
      go (set ∷ later) zero s l h = absurd (omega arith)
      go (set ∷ later) (suc k) s l h = cc

  -- ---- what a train can do, by the pairs that are reached

  pub record Reaches (k q : ℕ) : Type 0 where
    pub inside : q < many routes sets
    pub steps : ℕ
    pub comes_there : Comes (graph routes sets) (starts routes sets) steps q
    pub enough : k ≤ made routes sets q

  pub can_reach : (k : ℕ) → 1 ≤ k → k ≤ length sets → CanMakeFirst d routes t k → (q : ℕ) × Reaches k q
  can_reach k low high can = go can.0 can.1 can.2
    where
      go : (rs : List RouteNo) → IsWalk d routes t rs → MakesFirst d routes t k rs → (q : ℕ) × Reaches k q
      go [] walk h = absurd (not_empty k low h)
      go (r ∷ qs) walk h =
          let w = walked r qs walk in
          (end_of r qs, record { inside = end_within r qs w; steps = length qs; comes_there = comes r qs w; enough = made_first k r qs low high w h })

  pub reach_can : (k i q : ℕ) → 1 ≤ k → k ≤ length sets → Comes (graph routes sets) (starts routes sets) i q → k ≤ made routes sets q → CanMakeFirst d routes t k
  reach_can k i q low high c h =
      let b = came i q c in
      (b.route ∷ b.more, is_walk b.route b.more b.walk, makes_first k b.route b.more low high b.walk (subst (λ p. k ≤ made routes sets p) b.ends_there h))

  pub can_begin : CanMakeFirst d routes t 0
  can_begin = ([], record { named = λ r m. absurd m; begins = refl; goes_on = refl }, refl)

  pub record WayTo (n : ℕ) : Type 0 where
    pub pair : ℕ
    pub inside : pair < many routes sets
    pub steps : ℕ
    pub so_many : n ≡ suc steps
    pub comes_there : Comes (graph routes sets) (starts routes sets) steps pair
    pub all_made : made routes sets pair ≡ length sets

  no_empty_way : IsWay d routes t [] → ⊥
  no_empty_way way = not_empty (length sets) some (ap (list_all is_some) (all_taken []) ∙ way.makes_all)

  pub way_to : (rs : List RouteNo) → IsWay d routes t rs → WayTo (length rs)
  way_to [] way = absurd (no_empty_way way)
  way_to (r ∷ qs) way =
      let w = walked r qs way.walk in
      record { pair = end_of r qs; inside = end_within r qs w; steps = length qs; so_many = refl; comes_there = comes r qs w; all_made = makes_all r qs way }

  pub way_from : (k q : ℕ) → Comes (graph routes sets) (starts routes sets) k q → made routes sets q ≡ length sets → (rs : List RouteNo) × IsWay d routes t rs × (length rs ≡ suc k)
  way_from k q c h =
      let b = came k q c in
      (b.route ∷ b.more, is_way b.route b.more b.walk (subst (λ p. made routes sets p ≡ length sets) b.ends_there h), ap suc b.so_many)

  -- a pair over which a way leads
  pub record OnWay (r : RouteNo) : Type 0 where
    pub pair : ℕ
    pub inside : pair < many routes sets
    pub of_route : route_of (length sets) pair ≡ r
    pub before : ℕ
    pub comes_there : Comes (graph routes sets) (starts routes sets) before pair
    pub behind : ℕ
    pub last : ℕ
    pub leads_on : Leads (graph routes sets) behind pair last
    pub last_inside : last < many routes sets
    pub all_made : made routes sets last ≡ length sets

  pub live_to : (r : RouteNo) → IsLive d routes t r → OnWay r
  live_to r live = go live.0 live.1 live.2
    where
      go : (rs : List RouteNo) → IsWay d routes t rs → In r rs → OnWay r
      go [] way m = absurd m
      go (x ∷ qs) way m =
          let w = walked x qs way.walk in
          let o = over routes sets some r (first x) qs (start_within x w.is) w.chain (subst (λ y. In r (y ∷ qs)) (sym (first_is x w.is)) m) in
          record {
            pair = o.pair;
            inside = o.inside;
            of_route = o.of_route;
            before = o.before;
            comes_there = (first x, start_from routes sets some x w.is w.begins_there, o.to_pair);
            behind = o.behind;
            last = end_of x qs;
            leads_on = o.from_pair;
            last_inside = end_within x qs w;
            all_made = makes_all x qs way;
          }

  pub live_from : (i p k q : ℕ) → p < many routes sets → Comes (graph routes sets) (starts routes sets) i p → Leads (graph routes sets) k p q → made routes sets q ≡ length sets → IsLive d routes t (route_of (length sets) p)
  live_from i p k q h c l all =
      let b = came i p c in
      let a = back routes sets some k p q h l in
      let r = b.route in
      let qs = b.more in
      let more = a.0 in
      let on : Chain routes (route_of (length sets) (end_of r qs)) more = subst (λ x. Chain routes (route_of (length sets) x) more) b.ends_there a.2 in
      let walk : Walked r (qs ++ more) = record { is = b.walk.is; begins_there = b.walk.begins_there; chain = joined routes sets some (first r) qs more b.walk.chain on } in
      let end : q ≡ end_of r (qs ++ more) = a.3 ∙ ap (λ x. last_of routes sets some x more) b.ends_there ∙ sym (last_joined routes sets some (first r) qs more) in
      let stands : In (route_of (length sets) (end_of r qs)) (r ∷ qs) = subst (λ x. In (route_of (length sets) (end_of r qs)) (x ∷ qs)) (first_is r b.walk.is) (last_in routes sets some (first r) qs b.walk.chain) in
      (r ∷ (qs ++ more), is_way r (qs ++ more) walk (subst (λ p. made routes sets p ≡ length sets) end all), subst (λ x. In (route_of (length sets) x) (r ∷ (qs ++ more))) (sym b.ends_there) (in_append_left (route_of (length sets) (end_of r qs)) (r ∷ qs) more stands))
