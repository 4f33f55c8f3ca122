-- Steps in the graph of a first route are those by which chains that begin with it lead on.
use Rattle.std.proofs.Common.{◌≡◌, ℕ, zero, suc, ◌+◌, ◌-◌, ◌≤◌, ◌<◌, ◌⊎◌, inl, inr, Bool, true, false, not, ◌&&◌, ◌||◌, List, [], ◌∷◌, All, filter, length, get_or, map, Option, None, Some, refl, sym, ap, subst, ◌∙◌, arith}
use Rattle.std.specs.Prelude.{is_some}
use Rattle.std.proofs.lemmas.List.{get_or_past}
use Rattle.rail_base.specs.declared.route.Route.{Route}
use Rattle.rail_base.specs.declared.route.RouteNo.{RouteNo}
use Rattle.rail_base.specs.Members.{In}
use Rattle.rail_base.specs.Numbering.{count_from}
use Rattle.rail_base.specs.Routes.{IsRoute}
use Rattle.rail_spec.specs.Plans.{goes_on, is_start, route_at, route_numbers}
use Rattle.rail_base.proofs.Members.{below_or_not, false_unless, get_or-counted, map-map}
use Rattle.rail_base.proofs.Lists.{in_count_back, in_filter_back, in_map, in_map_back, length-count, length-map}
use Rattle.graph_steps.specs.Graphs.{next, AreLeast, IsGraph, IsLeast, Leads}
use Rattle.graph_steps.proofs.Leading.{all_from}
use Rattle.clause_spec.specs.Clauses.{extends, onward}
use Rattle.normal_clause_spec.specs.Clauses.{leads_to}
use Rattle.normal_clause_spec.specs.Walks.{Reaches}
use Rattle.normal_clause_spec.proofs.Walks.{leads_by_steps}
use Rattle.route_keepers.specs.Chains.{chain_row, going_on, graph_from, nodes_apart, start_apart}
use Rattle.route_keepers.proofs.Listing.{by_number, route_no, two_filters}

-- the numbers of all routes are those of routes
pub numbers_are : (routes : List Route) (r : RouteNo) → In r (route_numbers routes) → IsRoute routes r
numbers_are routes r m =
    let i = in_map_back route_no (count_from 1 (length routes)) r m in
    let b = in_count_back 1 (length routes) i.0 i.1 in
    let l = b.0 in let u = b.1 in
    subst (IsRoute routes) i.2 (omega arith, omega arith)

-- those that pass a test are
pub kept_are : (routes : List Route) (test : RouteNo → Bool) (xs : List RouteNo) → xs ≡ filter test (route_numbers routes) → All (IsRoute routes) xs
kept_are routes test xs e = all_from (IsRoute routes) xs (λ r m. numbers_are routes r (in_filter_back test (route_numbers routes) r (subst (In r) e m)).0)

-- ---- entries of lists with one for each route

pub many_numbers : {X : Type 0} (routes : List Route) (f : RouteNo → X) → length (map f (route_numbers routes)) ≡ length routes
many_numbers routes f = length-map f (route_numbers routes) ∙ length-map route_no (count_from 1 (length routes)) ∙ length-count 1 (length routes)

pub at_number : {X : Type 0} (routes : List Route) (f : RouteNo → X) (p : ℕ) (other : X) → p < length routes → get_or (map f (route_numbers routes)) p other ≡ f (route_no (p + 1))
at_number routes f p other h =
    ap (λ ls. get_or ls p other) (map-map f route_no (count_from 1 (length routes)))
    ∙ get_or-counted (λ n. f (route_no n)) 1 (length routes) p other h
    ∙ ap (λ n. f (route_no n)) (omega arith)

-- the entry of a route
pub entry_number : {X : Type 0} (routes : List Route) (f : RouteNo → X) (r : RouteNo) (other : X) → IsRoute routes r → get_or (map f (route_numbers routes)) (r.0 - 1) other ≡ f r
entry_number routes f r other is =
    let low = is.0 in let high = is.1 in
    let number : r.0 - 1 + 1 ≡ r.0 = omega arith in
    at_number routes f (r.0 - 1) other (omega arith) ∙ ap (λ n. f (route_no n)) number

-- what is read at a place
pub read_at : {X : Type 0} (routes : List Route) (f : RouteNo → X) (xs : List X) (p : ℕ) (x : X) → xs ≡ map f (route_numbers routes) → p < length xs → x ≡ get_or xs p x → x ≡ f (route_no (p + 1))
read_at routes f xs p x kept within read =
    let many : length xs ≡ length routes = ap length kept ∙ many_numbers routes f in
    read ∙ ap (λ ls. get_or ls p x) kept ∙ at_number routes f p x (omega arith)

-- ---- the graph of a first route

or_false : (b : Bool) → (b || false) ≡ b
or_false true = refl
or_false false = refl

module _ (routes : List Route) (v : RouteNo) where
  abbrev graph : List (List ℕ)
  graph = graph_from routes v

  abbrev number : ℕ → RouteNo
  number p = route_no (p + 1)

  abbrev node : RouteNo → ℕ
  node q = q.0 - 1

  onward_is : (r : RouteNo) → filter (start_apart routes v) (going_on routes r) ≡ onward routes (v ∷ []) r
  onward_is r = two_filters (λ q. goes_on (route_at routes r).finish (route_at routes q).start) (start_apart routes v) (extends routes (v ∷ []) r) (route_numbers routes)
      (λ q. ap (λ b. goes_on (route_at routes r).finish (route_at routes q).start && not b) (sym (or_false (is_start (route_at routes v).start (route_at routes q).start))))

  all_rows : graph ≡ map (λ r. nodes_apart routes v (going_on routes r)) (route_numbers routes)
  all_rows = map-map (nodes_apart routes v) (going_on routes) (route_numbers routes)

  pub many_nodes : length graph ≡ length routes
  many_nodes = ap length all_rows ∙ many_numbers routes (λ r. nodes_apart routes v (going_on routes r))

  row : (p : ℕ) → p < length routes → next graph p ≡ map node (onward routes (v ∷ []) (number p))
  row p h =
      ap (λ ls. get_or ls p []) all_rows
      ∙ at_number routes (λ r. nodes_apart routes v (going_on routes r)) p [] h
      ∙ ap (map node) (onward_is (number p))

  -- a route that goes on, and its node
  record Next (p q : ℕ) : Type 0 where
    route : RouteNo
    goes : In route (onward routes (v ∷ []) (number p))
    same : number q ≡ route
    within : q < length routes

  known : (p : ℕ) (r : RouteNo) → In r (onward routes (v ∷ []) (number p)) → IsRoute routes r
  known p r m = numbers_are routes r (in_filter_back (extends routes (v ∷ []) (number p)) (route_numbers routes) r m).0

  next_is : (p q : ℕ) → p < length routes → In q (next graph p) → Next p q
  next_is p q h m =
      let i = in_map_back node (onward routes (v ∷ []) (number p)) q (subst (In q) (row p h) m) in
      let is = known p i.0 i.1 in
      let low = is.0 in let high = is.1 in let e = i.2 in
      let same : q + 1 ≡ i.0.0 = omega arith in
      record { route = i.0; goes = i.1; same = ap route_no same; within = omega arith }

  pub is_graph : IsGraph graph
  is_graph p q m = go (below_or_not p (length routes))
    where
      go : (p < length routes) ⊎ (length routes ≤ p) → q < length graph
      go (inl h) = let n = next_is p q h m in let w = n.within in let e = many_nodes in omega arith
      go (inr h) = absurd (subst (In q) (get_or_past graph p [] (let e = many_nodes in omega arith)) m)

  leads_reach : (k p q : ℕ) → p < length routes → Leads graph k p q → Reaches routes (v ∷ []) k (number p) (number q)
  leads_reach zero p q h l = ap number l
  leads_reach (suc k) p q h l =
      let n = next_is p l.0 h l.1 in
      (n.route, n.goes, subst (λ r. Reaches routes (v ∷ []) k r (number q)) n.same (leads_reach k l.0 q n.within l.2))

  reach_leads : (k p q : ℕ) → p < length routes → Reaches routes (v ∷ []) k (number p) (number q) → Leads graph k p q
  reach_leads zero p q h r = let e : p + 1 ≡ q + 1 = ap (λ (x : RouteNo). x.0) r in omega arith
  reach_leads (suc k) p q h r =
      let is = known p r.0 r.1 in
      let low = is.0 in let high = is.1 in
      let same : r.0.0 ≡ node r.0 + 1 = omega arith in (
        node r.0,
        subst (In (node r.0)) (sym (row p h)) (in_map node (onward routes (v ∷ []) (number p)) r.0 r.1),
        reach_leads k (node r.0) q (omega arith) (subst (λ x. Reaches routes (v ∷ []) k x (number q)) (ap route_no same) r.2),
      )

  module _ (is : IsRoute routes v) where
    first_within : node v < length routes
    first_within = let low = is.0 in let high = is.1 in omega arith

    first_is : number (node v) ≡ v
    first_is = let low = is.0 in let e : node v + 1 ≡ v.0 = omega arith in ap route_no e

    pub start_within : (xs : List ℕ) → xs ≡ node v ∷ [] → (n : ℕ) → n ≡ length routes → All (λ p. p < n) xs
    start_within xs e n many = all_from (λ p. p < n) xs (λ p m. go p (subst (In p) e m))
      where
        go : (p : ℕ) → In p (node v ∷ []) → p < n
        go p (inl same) = let h = first_within in omega arith
        go p (inr m) = absurd m

    found_leads : (q : ℕ) (o : Option ℕ) → IsLeast graph (node v ∷ []) q o → is_some o ≡ leads_to routes v (number q)
    found_leads q (Some k) least = sym ((leads_by_steps routes v (number q) is).1 (k, go least.0.0 least.0.1 least.0.2))
      where
        go : (p : ℕ) → In p (node v ∷ []) → Leads graph k p q → Reaches routes (v ∷ []) k v (number q)
        go p (inl e) l = subst (λ r. Reaches routes (v ∷ []) k r (number q)) first_is (leads_reach k (node v) q first_within (subst (λ x. Leads graph k x q) (sym e) l))
        go p (inr m) l = absurd m
    found_leads q None least = sym (false_unless (leads_to routes v (number q)) (λ h.
        let r = (leads_by_steps routes v (number q) is).0 h in
        least r.0 (node v, inl refl, reach_leads r.0 (node v) q first_within (subst (λ x. Reaches routes (v ∷ []) r.0 x (number q)) (sym first_is) r.1))))

    -- the row of the route, by what is found
    pub row_found : (found : List (Option ℕ)) → AreLeast graph (node v ∷ []) found → map is_some found ≡ chain_row routes v
    row_found found least =
        let many : length found ≡ length routes = least.one_a_node ∙ many_nodes in
        by_number is_some (λ n. leads_to routes v (route_no n)) found 1 None (λ i h. found_leads i (get_or found i None) (least.each i (let m = many_nodes in omega arith)) ∙ ap (λ n. leads_to routes v (route_no n)) (omega arith))
        ∙ ap (λ n. map (λ n. leads_to routes v (route_no n)) (count_from 1 n)) many
        ∙ sym (map-map (leads_to routes v) route_no (count_from 1 (length routes)))
