-- Pairs by their numbers, and what can come next after each.
use Rattle.std.proofs.Common.{◌≡◌, ℕ, ◌+◌, ◌-◌, ◌*◌, ◌/◌, ◌%◌, ◌≤◌, ◌<◌, ◌⊎◌, inl, inr, true, List, [], All, map, filter, length, get_or, sym, ap, subst, ◌∙◌, arith}
use Rattle.std.proofs.lemmas.Nat.{div-add-mod', div-mul-add, div_below, mul-add-lt}
use Rattle.std.proofs.lemmas.List.{get_or_default, get_or_past}
use Rattle.rail_base.specs.declared.station.NodeNo.{NodeNo}
use Rattle.rail_base.specs.declared.route.Route.{Route}
use Rattle.rail_base.specs.declared.route.RouteNo.{RouteNo}
use Rattle.rail_base.specs.Members.{In}
use Rattle.rail_base.specs.Numbering.{after_first, count_from}
use Rattle.rail_base.specs.Routes.{IsRoute}
use Rattle.rail_spec.specs.Plans.{goes_on, route_at, route_numbers}
use Rattle.rail_base.proofs.Members.{below_or_not, get_or-counted, in_filter, map-map}
use Rattle.rail_base.proofs.Lists.{in_count, in_count_back, in_filter_back, in_map, in_map_back, length-count, length-map}
use Rattle.graph_steps.specs.Graphs.{next, IsGraph}
use Rattle.graph_steps.proofs.Leading.{all_from}
use Rattle.train_ways.specs.Pairs.{all_made, all_onward, begins, graph, made, made_before, many, next_pairs, onward, pair_of, route_of, starts}
use Rattle.train_ways.proofs.Visiting.{on_grows, on_within}

-- the numbers of all routes are those of routes
pub in_numbers : (routes : List Route) (r : RouteNo) → IsRoute routes r → In r (route_numbers routes)
in_numbers routes r h = in_map (λ n. record { 0 = n }) (count_from 1 (length routes)) r.0 (let l = h.0 in let u = h.1 in in_count 1 (length routes) r.0 l (omega arith))

pub numbers_are : (routes : List Route) (r : RouteNo) → In r (route_numbers routes) → IsRoute routes r
numbers_are routes r m =
    let i = in_map_back (λ n. let x : RouteNo = record { 0 = n } in x) (count_from 1 (length routes)) r m in
    let b = in_count_back 1 (length routes) i.0 i.1 in
    let l = b.0 in let u = b.1 in
    subst (IsRoute routes) i.2 (omega arith, omega arith)

onward_is : (routes : List Route) (r q : RouteNo) → In q (onward routes r) → IsRoute routes q × (goes_on (route_at routes r).finish (route_at routes q).start ≡ true)
onward_is routes r q m =
    let f = in_filter_back (λ q. goes_on (route_at routes r).finish (route_at routes q).start) (route_numbers routes) q m in
    (numbers_are routes q f.0, f.1)

module _ (routes : List Route) (sets : List (List NodeNo)) (some : 1 ≤ length sets) where
  abbrev w : ℕ
  w = length sets

  -- ---- the number of a pair tells both

  place : (r : RouteNo) (j : ℕ) → 1 ≤ j → j ≤ w → pair_of w r j / w ≡ r.0 - 1
  place r j low high = div-mul-add (r.0 - 1) w (j - 1) (omega arith)

  pub route_back : (r : RouteNo) (j : ℕ) → 1 ≤ r.0 → 1 ≤ j → j ≤ w → route_of w (pair_of w r j) ≡ r
  route_back r j is low high = let p = place r j low high in ap (λ n. let x : RouteNo = record { 0 = n } in x) (omega arith)

  pub made_back : (r : RouteNo) (j : ℕ) → 1 ≤ j → j ≤ w → made_before w (pair_of w r j) ≡ j
  made_back r j low high =
      let p = place r j low high in
      let d = div-add-mod' (pair_of w r j) w in
      let e : pair_of w r j / w * w ≡ (r.0 - 1) * w = ap (λ n. n * w) p in
      omega arith

  pub pair_again : (p : ℕ) → pair_of w (route_of w p) (made_before w p) ≡ p
  pair_again p =
      let d = div-add-mod' p w in
      let a : p / w + 1 - 1 ≡ p / w = omega arith in
      let e : (p / w + 1 - 1) * w ≡ p / w * w = ap (λ n. n * w) a in
      let b : p % w + 1 - 1 ≡ p % w = omega arith in
      omega arith

  pub pair_within : (r : RouteNo) (j : ℕ) → IsRoute routes r → 1 ≤ j → j ≤ w → pair_of w r j < many routes sets
  pair_within r j is low high = let l = is.0 in let u = is.1 in let h = mul-add-lt (r.0 - 1) w (j - 1) (length routes) (omega arith) (omega arith) in omega arith

  pub route_there : (p : ℕ) → p < many routes sets → IsRoute routes (route_of w p)
  route_there p h = (omega arith, let b = div_below p w (length routes) some h in omega arith)

  pub before_low : (p : ℕ) → 1 ≤ made_before w p
  before_low p = omega arith

  pub before_high : (p : ℕ) → made_before w p ≤ w
  before_high p = omega arith

  pub made_low : (p : ℕ) → 1 ≤ made routes sets p
  made_low p = let g = on_grows sets (map (λ n. n.0) (after_first (route_at routes (route_of w p)).nodes)) (made_before w p) in let l = before_low p in omega arith

  pub made_high : (p : ℕ) → made routes sets p ≤ w
  made_high p = on_within sets (map (λ n. n.0) (after_first (route_at routes (route_of w p)).nodes)) (made_before w p) (before_high p)

  -- ---- what comes next

  pub many_nodes : length (graph routes sets) ≡ many routes sets
  many_nodes = length-map (next_pairs routes sets) (count_from 0 (many routes sets)) ∙ length-count 0 (many routes sets)

  row : (p : ℕ) → p < many routes sets → next (graph routes sets) p ≡ next_pairs routes sets p
  row p h = get_or-counted (next_pairs routes sets) 0 (many routes sets) p [] h ∙ ap (next_pairs routes sets) (omega arith)

  pub has_next : (p q : ℕ) → In q (next (graph routes sets) p) → p < many routes sets
  has_next p q m = go (below_or_not p (many routes sets))
    where
      go : (p < many routes sets) ⊎ (many routes sets ≤ p) → p < many routes sets
      go (inl h) = h
      go (inr h) = absurd (subst (In q) (get_or_past (graph routes sets) p [] (let e = many_nodes in omega arith)) m)

  pub next_is : (p q : ℕ) → In q (next (graph routes sets) p) → (r : RouteNo) × IsRoute routes r × (goes_on (route_at routes (route_of w p)).finish (route_at routes r).start ≡ true) × (q ≡ pair_of w r (made routes sets p))
  next_is p q m =
      let i = in_map_back (λ q. pair_of w q (made routes sets p)) (onward routes (route_of w p)) q (subst (In q) (row p (has_next p q m)) m) in
      let o = onward_is routes (route_of w p) i.0 i.1 in
      (i.0, o.0, o.1, sym i.2)

  pub next_from : (p : ℕ) (r : RouteNo) → p < many routes sets → IsRoute routes r → goes_on (route_at routes (route_of w p)).finish (route_at routes r).start ≡ true → In (pair_of w r (made routes sets p)) (next (graph routes sets) p)
  next_from p r h is follows =
      subst (In (pair_of w r (made routes sets p))) (sym (row p h))
      (in_map (λ q. pair_of w q (made routes sets p)) (onward routes (route_of w p)) r (in_filter (λ q. goes_on (route_at routes (route_of w p)).finish (route_at routes q).start) (route_numbers routes) r (in_numbers routes r is) follows))

  pub is_graph : IsGraph (graph routes sets)
  is_graph p q m =
      let n = next_is p q m in
      subst (λ k. q < k) (sym many_nodes) (subst (λ k. k < many routes sets) (sym n.3) (pair_within n.0 (made routes sets p) n.1 (made_low p) (made_high p)))

  -- ---- what comes first

  pub start_is : (p : ℕ) → In p (starts routes sets) → (r : RouteNo) × IsRoute routes r × (begins routes sets r ≡ true) × (p ≡ pair_of w r 1)
  start_is p m =
      let i = in_map_back (λ r. pair_of w r 1) (filter (begins routes sets) (route_numbers routes)) p m in
      let f = in_filter_back (begins routes sets) (route_numbers routes) i.0 i.1 in
      (i.0, numbers_are routes i.0 f.0, f.1, sym i.2)

  pub start_from : (r : RouteNo) → IsRoute routes r → begins routes sets r ≡ true → In (pair_of w r 1) (starts routes sets)
  start_from r is h = in_map (λ r. pair_of w r 1) (filter (begins routes sets) (route_numbers routes)) r (in_filter (begins routes sets) (route_numbers routes) r (in_numbers routes r is) h)

  pub starts_within : (p : ℕ) → In p (starts routes sets) → p < many routes sets
  starts_within p m = let s = start_is p m in subst (λ k. k < many routes sets) (sym s.3) (pair_within s.0 1 s.1 (omega arith) some)

-- ---- the lists that are kept

pub onward_many : (routes : List Route) → length (all_onward routes) ≡ length routes
onward_many routes = length-map (onward routes) (route_numbers routes) ∙ length-map (λ n. let x : RouteNo = record { 0 = n } in x) (count_from 1 (length routes)) ∙ length-count 1 (length routes)

pub onward_at : (routes : List Route) (i : ℕ) → i < length routes → get_or (all_onward routes) i [] ≡ onward routes (record { 0 = i + 1 })
onward_at routes i h =
    ap (λ ls. get_or ls i []) (map-map (onward routes) (λ n. let x : RouteNo = record { 0 = n } in x) (count_from 1 (length routes)))
    ∙ get_or-counted (λ n. onward routes (record { 0 = n })) 1 (length routes) i [] h
    ∙ ap (λ n. onward routes (record { 0 = n })) (omega arith)

pub onward_low : (routes : List Route) (r : RouteNo) (xs : List RouteNo) → xs ≡ onward routes r → All (λ q. 1 ≤ q.0) xs
onward_low routes r xs e = all_from (λ q. 1 ≤ q.0) xs (λ q m. (onward_is routes r q (subst (In q) e m)).0.0)

pub made_many : (routes : List Route) (sets : List (List NodeNo)) → length (all_made routes sets) ≡ many routes sets
made_many routes sets = length-map (made routes sets) (count_from 0 (many routes sets)) ∙ length-count 0 (many routes sets)

pub made_entry : (routes : List Route) (sets : List (List NodeNo)) (xs : List ℕ) (p : ℕ) → xs ≡ all_made routes sets → p < length xs → get_or xs p 0 ≡ made routes sets p
made_entry routes sets xs p e h =
    let long : length xs ≡ many routes sets = ap length e ∙ made_many routes sets in
    ap (λ ls. get_or ls p 0) e ∙ get_or-counted (made routes sets) 0 (many routes sets) p 0 (omega arith) ∙ ap (made routes sets) (omega arith)

pub row_of : (routes : List Route) (lists : List (List RouteNo)) (i : ℕ) (xs row : List RouteNo) → lists ≡ all_onward routes → i < length routes → row ≡ get_or lists i row → xs ≡ row → xs ≡ onward routes (record { 0 = i + 1 })
row_of routes lists i xs row kept h read same =
    let inside : i < length lists = subst (λ n. i < n) (sym (ap length kept ∙ onward_many routes)) h in
    same ∙ read ∙ get_or_default lists i row [] inside ∙ ap (λ ls. get_or ls i []) kept ∙ onward_at routes i h

pub pair_below : (routes : List Route) (sets : List (List NodeNo)) (xs : List ℕ) (p : ℕ) → 1 ≤ length sets → xs ≡ all_made routes sets → p < length xs → p / length sets < length routes
pair_below routes sets xs p some kept h =
    let long : length xs ≡ length routes * length sets = ap length kept ∙ made_many routes sets in
    div_below p (length sets) (length routes) some (subst (λ n. p < n) long h)
