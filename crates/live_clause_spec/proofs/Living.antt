-- The test of live commands tells those whose route stands in a way of the train.
use Rattle.std.proofs.Common.{◌≡◌, ℕ, zero, suc, ◌≤◌, ◌<◌, ◌⊎◌, inl, inr, Bool, true, List, [], ◌∷◌, filter, length, refl, sym, ap, subst, ◌∙◌, arith, eqb-true, eq-eqb, true≢false}
use Rattle.std.specs.Prelude.{◌↔◌}
use Rattle.std.specs.List.{list_any}
use Rattle.rail_base.specs.declared.station.Station.{Station}
use Rattle.rail_base.specs.declared.station.NodeNo.{NodeNo}
use Rattle.rail_base.specs.declared.station.TrainNo.{TrainNo}
use Rattle.rail_base.specs.declared.route.Route.{Route}
use Rattle.rail_base.specs.declared.route.RouteNo.{RouteNo}
use Rattle.rail_base.specs.declared.route.Start.{Start}
use Rattle.rail_base.specs.declared.route.Start.TheVariants as start
use Rattle.rail_base.specs.Numbering.{entry}
use Rattle.rail_base.specs.Routes.{IsRoute}
use Rattle.rail_base.specs.Stations.{train_of}
use Rattle.rail_base.proofs.Members.{In, and_both, and_left, and_right, below_or_not, either, in_filter, list_any_from, list_any_gives, or_left, or_right}
use Rattle.rail_base.proofs.Lists.{in_filter_back}
use Rattle.rail_spec.specs.Plans.{goes_on, is_route, route_at, route_numbers, starts_in}
use Rattle.graph_steps.specs.Graphs.{Leads}
use Rattle.graph_steps.proofs.Leading.{leads_to_node}
use Rattle.way_spec.specs.Ways.{IsLive, IsWay}
use Rattle.train_ways.specs.Pairs.{begins, graph, made, made_before, many, onward, pair_of, route_of, starts}
use Rattle.train_ways.proofs.Pairing.{in_numbers, is_graph, made_back, made_high, made_low, many_nodes, next_from, next_is, numbers_are, pair_within, route_back, start_from, start_is, starts_within}
use Rattle.train_ways.proofs.Reaching.{live_from, live_to}
use Rattle.live_clause_spec.specs.Live.{can_come, can_finish, can_finish_on, has_made_all, is_live_route, made_then}
use Rattle.live_clause_spec.proofs.Few.{few_come, few_lead}

-- a route is known by its number
same_route : (r q : RouteNo) → is_route r q ≡ true → r ≡ q
same_route r q h = ap (λ n. let x : RouteNo = record { 0 = n } in x) (eqb-true r.0 q.0 h)

-- two that are one, in a test
at : (test : RouteNo → ℕ → Bool) (r q : RouteNo) (i j : ℕ) → r ≡ q → i ≡ j → test r i ≡ true → test q j ≡ true
at test r q i j e f h = subst (λ x. test x j ≡ true) e (subst (λ k. test r k ≡ true) f h)

-- ---- no visits

starts_nowhere : (s : Start) → starts_in [] s ≡ true → ⊥
starts_nowhere (start.Boundary n) h = true≢false (sym h)
starts_nowhere (start.Signal q) h = true≢false (sym h)

first_of_none : (sets : List (List NodeNo)) → length sets < 1 → entry [] sets 1 ≡ []
first_of_none [] h = refl
first_of_none (s ∷ ss) h = absurd (omega arith)

begins_nowhere : (routes : List Route) (sets : List (List NodeNo)) → length sets < 1 → (r : RouteNo) → begins routes sets r ≡ true → ⊥
begins_nowhere routes sets none r h = starts_nowhere (route_at routes r).start (subst (λ set. starts_in set (route_at routes r).start ≡ true) (first_of_none sets none) h)

none_live : (routes : List Route) (sets : List (List NodeNo)) → length sets < 1 → (r : RouteNo) → is_live_route routes sets r ≡ true → ⊥
none_live routes sets none r h =
    let g = list_any_gives (λ q. can_come routes sets (can_finish_on routes sets r) (many routes sets) q 1) (filter (begins routes sets) (route_numbers routes)) h in
    begins_nowhere routes sets none g.0 (in_filter_back (begins routes sets) (route_numbers routes) g.0 g.1).1

-- ---- the test over pairs

module _ (routes : List Route) (sets : List (List NodeNo)) (some : 1 ≤ length sets) where
  abbrev route : ℕ → RouteNo
  route p = route_of (length sets) p

  abbrev before : ℕ → ℕ
  before p = made_before (length sets) p

  abbrev behind : ℕ → RouteNo → ℕ
  behind p q = pair_of (length sets) q (made routes sets p)

  behind_route : (p : ℕ) (q : RouteNo) → IsRoute routes q → route (behind p q) ≡ q
  behind_route p q is = route_back routes sets some q (made routes sets p) is.0 (made_low routes sets some p) (made_high routes sets some p)

  behind_before : (p : ℕ) (q : RouteNo) → before (behind p q) ≡ made routes sets p
  behind_before p q = made_back routes sets some q (made routes sets p) (made_low routes sets some p) (made_high routes sets some p)

  behind_within : (p : ℕ) (q : RouteNo) → IsRoute routes q → behind p q < many routes sets
  behind_within p q is = pair_within routes sets some q (made routes sets p) is (made_low routes sets some p) (made_high routes sets some p)

  -- from a pair few steps lead to one that passes
  pub record Passes (test : RouteNo → ℕ → Bool) (k p : ℕ) : Type 0 where
    pub steps : ℕ
    pub last : ℕ
    pub few : steps ≤ k
    pub leads : Leads (graph routes sets) steps p last
    pub passes : test (route last) (before last) ≡ true

  abbrev comes : (RouteNo → ℕ → Bool) → ℕ → ℕ → RouteNo → Bool
  comes test k p q = can_come routes sets test k q (made_then routes sets (route p) (before p))

  pub to_pair : (test : RouteNo → ℕ → Bool) (k p : ℕ) → p < many routes sets → can_come routes sets test k (route p) (before p) ≡ true → Passes test k p
  to_pair test zero p inside h = record { steps = 0; last = p; few = omega arith; leads = refl; passes = h }
  to_pair test (suc k) p inside h = go (either (test (route p) (before p)) (list_any (comes test k p) (onward routes (route p))) h) (λ q is further. to_pair test k (behind p q) (behind_within p q is) further)
    where
      later : (q : RouteNo) → IsRoute routes q → goes_on (route_at routes (route p)).finish (route_at routes q).start ≡ true → Passes test k (behind p q) → Passes test (suc k) p
      later q is follows more = record {
        steps = suc more.steps;
        last = more.last;
        few = (let f = more.few in omega arith);
        leads = (behind p q, next_from routes sets some p q inside is follows, more.leads);
        passes = more.passes;
      }

      go : (test (route p) (before p) ≡ true) ⊎ (list_any (comes test k p) (onward routes (route p)) ≡ true)
          → ((q : RouteNo) → IsRoute routes q → can_come routes sets test k (route (behind p q)) (before (behind p q)) ≡ true → Passes test k (behind p q)) → Passes test (suc k) p
      go (inl e) further = record { steps = 0; last = p; few = omega arith; leads = refl; passes = e }
      go (inr e) further =
          let g = list_any_gives (comes test k p) (onward routes (route p)) e in
          let f = in_filter_back (λ q. goes_on (route_at routes (route p)).finish (route_at routes q).start) (route_numbers routes) g.0 g.1 in
          let is = numbers_are routes g.0 f.0 in
          later g.0 is f.1 (further g.0 is (at (can_come routes sets test k) g.0 (route (behind p g.0)) (made routes sets p) (before (behind p g.0)) (sym (behind_route p g.0 is)) (sym (behind_before p g.0)) g.2))

  pub from_pair : (test : RouteNo → ℕ → Bool) (i k p q : ℕ) → i ≤ k → Leads (graph routes sets) i p q → test (route q) (before q) ≡ true → can_come routes sets test k (route p) (before p) ≡ true
  from_pair test zero k p q low l h = go k (subst (λ x. test (route x) (before x) ≡ true) (sym l) h)
    where
      go : (k : ℕ) → test (route p) (before p) ≡ true → can_come routes sets test k (route p) (before p) ≡ true
      go zero e = e
      go (suc k) e = or_left (test (route p) (before p)) (list_any (comes test k p) (onward routes (route p))) e
  from_pair test (suc i) zero p q low l h = absurd (omega arith)
  from_pair test (suc i) (suc k) p q low l h =
      let n = next_is routes sets some p l.0 l.1 in
      let further : can_come routes sets test k (route l.0) (before l.0) ≡ true = from_pair test i k l.0 q (omega arith) l.2 h in
      let there : route l.0 ≡ n.0 = ap (route_of (length sets)) n.3 ∙ behind_route p n.0 n.1 in
      let so_many : before l.0 ≡ made routes sets p = ap (made_before (length sets)) n.3 ∙ behind_before p n.0 in
      let step : comes test k p n.0 ≡ true = at (can_come routes sets test k) (route l.0) n.0 (before l.0) (made routes sets p) there so_many further in
      or_right (test (route p) (before p)) (list_any (comes test k p) (onward routes (route p)))
      (list_any_from (comes test k p) (onward routes (route p)) n.0
      (in_filter (λ q. goes_on (route_at routes (route p)).finish (route_at routes q).start) (route_numbers routes) n.0 (in_numbers routes n.0 n.1) n.2) step)

  inside : (i p q : ℕ) → p < many routes sets → Leads (graph routes sets) i p q → q < many routes sets
  inside i p q h l = let e = many_nodes routes sets some in let k = leads_to_node (graph routes sets) (is_graph routes sets some) i p q (omega arith) l in omega arith

  -- a route that passes, with the steps to it and on from it
  pub record Found (r : RouteNo) : Type 0 where
    pub first : ℕ
    pub begin : In first (starts routes sets)
    pub pair : ℕ
    pub there : pair < many routes sets
    pub of_route : route pair ≡ r
    pub steps_to : ℕ
    pub leads_there : Leads (graph routes sets) steps_to first pair
    pub last : ℕ
    pub steps_on : ℕ
    pub leads_on : Leads (graph routes sets) steps_on pair last
    pub all_made : made routes sets last ≡ length sets

  pub found_from : (r : RouteNo) → is_live_route routes sets r ≡ true → Found r
  found_from r h =
      let g = list_any_gives (λ q. can_come routes sets (can_finish_on routes sets r) (many routes sets) q 1) (filter (begins routes sets) (route_numbers routes)) h in
      let q = g.0 in
      let f = in_filter_back (begins routes sets) (route_numbers routes) q g.1 in
      let is = numbers_are routes q f.0 in
      let one : 1 ≤ 1 = omega arith in
      let s = pair_of (length sets) q 1 in
      let s_inside = pair_within routes sets some q 1 is one some in
      let come : can_come routes sets (can_finish_on routes sets r) (many routes sets) (route s) (before s) ≡ true = at (can_come routes sets (can_finish_on routes sets r) (many routes sets)) q (route s) 1 (before s) (sym (route_back routes sets some q 1 is.0 one some)) (sym (made_back routes sets some q 1 one some)) g.2 in
      let a = to_pair (can_finish_on routes sets r) (many routes sets) s s_inside come in
      let p = a.last in
      let p_inside = inside a.steps s p s_inside a.leads in
      let here = and_left (is_route (route p) r) (can_finish routes sets (route p) (before p)) a.passes in
      let b = to_pair (has_made_all routes sets) (many routes sets) p p_inside (and_right (is_route (route p) r) (can_finish routes sets (route p) (before p)) a.passes) in
      record {
        first = s;
        begin = start_from routes sets some q is f.1;
        pair = p;
        there = p_inside;
        of_route = same_route (route p) r here;
        steps_to = a.steps;
        leads_there = a.leads;
        last = b.last;
        steps_on = b.steps;
        leads_on = b.leads;
        all_made = eqb-true (made routes sets b.last) (length sets) b.passes;
      }

  pub found_back : (r : RouteNo) → Found r → is_live_route routes sets r ≡ true
  found_back r o =
      let e = many_nodes routes sets some in
      let p = o.pair in
      let p_inside = o.there in
      let starts_in_graph : (x : ℕ) → In x (starts routes sets) → x < length (graph routes sets) = λ x m. (let k = starts_within routes sets some x m in omega arith) in
      let a = few_come (graph routes sets) (is_graph routes sets some) (starts routes sets) starts_in_graph o.steps_to p (o.first, o.begin, o.leads_there) in
      let b = few_lead (graph routes sets) (is_graph routes sets some) o.steps_on p o.last (omega arith) o.leads_on in
      let a_few = a.1 in
      let b_few = b.1 in
      let finish : can_finish routes sets (route p) (before p) ≡ true = from_pair (has_made_all routes sets) b.0 (many routes sets) p o.last (omega arith) b.2 (eq-eqb (made routes sets o.last) (length sets) o.all_made) in
      let here : is_route (route p) r ≡ true = eq-eqb (route p).0 r.0 (ap (λ (x : RouteNo). x.0) o.of_route) in
      let s = a.2.0 in
      let come : can_come routes sets (can_finish_on routes sets r) (many routes sets) (route s) (before s) ≡ true =
      from_pair (can_finish_on routes sets r) a.0 (many routes sets) s p (omega arith) a.2.2 (and_both (is_route (route p) r) (can_finish routes sets (route p) (before p)) here finish) in
      let first = start_is routes sets some s a.2.1 in
      let q = first.0 in
      let one : 1 ≤ 1 = omega arith in
      let begin = at (can_come routes sets (can_finish_on routes sets r) (many routes sets)) (route s) q (before s) 1 (ap (route_of (length sets)) first.3 ∙ route_back routes sets some q 1 first.1.0 one some) (ap (made_before (length sets)) first.3 ∙ made_back routes sets some q 1 one some) come in
      list_any_from (λ q. can_come routes sets (can_finish_on routes sets r) (many routes sets) q 1) (filter (begins routes sets) (route_numbers routes)) q
      (in_filter (begins routes sets) (route_numbers routes) q (in_numbers routes q first.1) first.2) begin

-- ---- what it tells

module _ (d : Station) (routes : List Route) (t : TrainNo) where
  no_way : length (train_of d t).visits < 1 → (r : RouteNo) → IsLive d routes t r → ⊥
  no_way none r live = go live.0 live.1 live.2
    where
      go : (rs : List RouteNo) → IsWay d routes t rs → In r rs → ⊥
      go [] way m = m
      go (x ∷ xs) way m = begins_nowhere routes (train_of d t).visits none x way.walk.begins

  module _ (has : (r : RouteNo) → IsRoute routes r → 1 ≤ length (route_at routes r).nodes) where
    way_there : (some : 1 ≤ length (train_of d t).visits) (r : RouteNo) → Found routes (train_of d t).visits some r → IsLive d routes t r
    way_there some r f = subst (IsLive d routes t) f.of_route (live_from d routes t has some f.steps_to f.pair f.steps_on f.last f.there (f.first, f.begin, f.leads_there) f.leads_on f.all_made)

    way_back : (some : 1 ≤ length (train_of d t).visits) (r : RouteNo) → IsLive d routes t r → Found routes (train_of d t).visits some r
    way_back some r live =
        let o = live_to d routes t has some r live in
        record {
          first = o.comes_there.0;
          begin = o.comes_there.1;
          pair = o.pair;
          there = o.inside;
          of_route = o.of_route;
          steps_to = o.before;
          leads_there = o.comes_there.2;
          last = o.last;
          steps_on = o.behind;
          leads_on = o.leads_on;
          all_made = o.all_made;
        }

    pub tells_live : (r : RouteNo) → (is_live_route routes (train_of d t).visits r ≡ true) ↔ IsLive d routes t r
    tells_live r = go (below_or_not (length (train_of d t).visits) 1)
      where
        go : (length (train_of d t).visits < 1) ⊎ (1 ≤ length (train_of d t).visits) → (is_live_route routes (train_of d t).visits r ≡ true) ↔ IsLive d routes t r
        go (inl none) = (λ h. absurd (none_live routes (train_of d t).visits none r h), λ live. absurd (no_way none r live))
        go (inr some) = (λ h. way_there some r (found_from routes (train_of d t).visits some r h), λ live. found_back routes (train_of d t).visits some r (way_back some r live))
