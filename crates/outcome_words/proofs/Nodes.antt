-- By which command a train comes to the nodes of its path.
use Rattle.std.proofs.Common.{◌≡◌, ℕ, zero, suc, ◌+◌, ◌-◌, ◌≤◌, ◌<◌, inl, inr, List, [], ◌∷◌, ◌++◌, get_or, length, map, nat_abs, sum_by, take, ℤ, refl, sym, ap, ◌∙◌, arith}
use Rattle.std.proofs.lemmas.List.{get_or-append-add}
use Rattle.std.proofs.lemmas.List.Sums.{sum_by-cons}
use Rattle.rail_base.specs.declared.station.Station.{Station}
use Rattle.rail_base.specs.declared.station.EdgeNo.{EdgeNo}
use Rattle.rail_base.specs.declared.station.NodeNo.{NodeNo}
use Rattle.rail_base.specs.declared.route.Route.{Route}
use Rattle.rail_base.specs.declared.route.RouteNo.{RouteNo}
use Rattle.rail_base.specs.declared.state.PathNode.{PathNode}
use Rattle.rail_base.specs.Admitted.{IsAdmitted}
use Rattle.rail_base.specs.Members.{In}
use Rattle.rail_base.specs.Numbering.{after_first}
use Rattle.rail_base.specs.Routes.{length_mm, route_at}
use Rattle.rail_base.specs.Stations.{length_of}
use Rattle.rail_base.proofs.Lists.{length-map}
use Rattle.rail_spec.specs.Track.{edge_ends, routes_of}
use Rattle.rail_spec.specs.Places.{path_nodes_of, path_nodes_after, path_nodes}
use Rattle.rail_laws.proofs.AsEdges.{told}

-- how many edges
abbrev pub edges : Route → ℕ
edges r = length r.edges

-- a route with its start's node and one for each edge, of which there is one
pub record Sized (r : Route) : Type 0 where
  pub nodes : length r.nodes ≡ suc (edges r)
  pub some : 1 ≤ edges r

-- ---- lists

left_at : {X : Type 0} (xs ys : List X) (i : ℕ) (d : X) → i < length xs → get_or (xs ++ ys) i d ≡ get_or xs i d
left_at [] ys i d h = absurd (omega arith)
left_at (x ∷ xs) ys zero d h = refl
left_at (x ∷ xs) ys (suc i) d h = left_at xs ys i d (omega arith)

right_at : {X : Type 0} (xs ys : List X) (n i : ℕ) (d : X) → length xs ≡ n → get_or (xs ++ ys) (n + i) d ≡ get_or ys i d
right_at xs ys n i d e = ap (λ m. get_or (xs ++ ys) (m + i) d) (sym e) ∙ get_or-append-add xs ys i d

-- ---- nodes

module _ (o j : ℕ) where
  abbrev node_at : NodeNo × ℤ → PathNode
  node_at p = record { node = p.0; event = record { granted = j; place = o + nat_abs p.1 } }

  command_of : (ps : List (NodeNo × ℤ)) (i : ℕ) (none : PathNode) → i < length ps → (get_or (map node_at ps) i none).event.granted ≡ j
  command_of [] i none h = absurd (omega arith)
  command_of (p ∷ ps) zero none h = refl
  command_of (p ∷ ps) (suc i) none h = command_of ps i none (omega arith)

  command_after : (ps : List (NodeNo × ℤ)) (i : ℕ) (none : PathNode) → suc i < length ps → (get_or (after_first (map node_at ps)) i none).event.granted ≡ j
  command_after [] i none h = absurd (omega arith)
  command_after (p ∷ ps) i none h = command_of ps i none (omega arith)

  length-after : (ps : List (NodeNo × ℤ)) (n : ℕ) → length ps ≡ suc n → length (after_first (map node_at ps)) ≡ n
  length-after [] n e = absurd (omega arith)
  length-after (p ∷ ps) n e = length-map node_at ps ∙ omega arith

-- how many edges some routes have, and that there is one
some_edges : (rs : List Route) (n : ℕ) → ((r : Route) → In r rs → Sized r) → n < length rs → 1 ≤ sum_by edges (take (suc n) rs)
some_edges [] n sized h = absurd (omega arith)
some_edges (r ∷ rs) n sized h = let s = (sized r (inl refl)).some in let c = sum_by-cons edges r (take n rs) in omega arith

-- the last node of the route of this place is reached by its command
after_at : (rs : List Route) (o j n : ℕ) (none : PathNode) → ((r : Route) → In r rs → Sized r) → n < length rs
    → (get_or (path_nodes_after o j rs) (sum_by edges (take (suc n) rs) - 1) none).event.granted ≡ j + n
after_at [] o j n none sized h = absurd (omega arith)
after_at (r ∷ rs) o j zero none sized h =
    let s = sized r (inl refl) in
    let long = s.nodes in
    let some = s.some in
    let c : sum_by edges (take 1 (r ∷ rs)) ≡ edges r + 0 = sum_by-cons edges r [] in
    let place : sum_by edges (take 1 (r ∷ rs)) - 1 ≡ edges r - 1 = omega arith in
    let here = after_first (path_nodes_of o j r) in
    let many : length here ≡ edges r = length-after o j r.nodes (edges r) long in
    let more = path_nodes_after (o + length_mm r) (j + 1) rs in
    let same : j + 0 ≡ j = omega arith in
    ap (λ i. (get_or (here ++ more) i none).event.granted) place
    ∙ ap (λ (p : PathNode). p.event.granted) (left_at here more (edges r - 1) none (omega arith))
    ∙ command_after o j r.nodes (edges r - 1) none (omega arith) ∙ sym same
after_at (r ∷ rs) o j (suc n) none sized h =
    let s = sized r (inl refl) in
    let c = sum_by-cons edges r (take (suc n) rs) in
    let some = some_edges rs n (λ q m. sized q (inr m)) (omega arith) in
    let rest = sum_by edges (take (suc n) rs) in
    let place : sum_by edges (take (suc (suc n)) (r ∷ rs)) - 1 ≡ edges r + (rest - 1) = omega arith in
    let here = after_first (path_nodes_of o j r) in
    let more = path_nodes_after (o + length_mm r) (j + 1) rs in
    let same : j + 1 + n ≡ j + suc n = omega arith in
    ap (λ i. (get_or (here ++ more) i none).event.granted) place
    ∙ ap (λ (p : PathNode). p.event.granted) (right_at here more (edges r) (rest - 1) none (length-after o j r.nodes (edges r) s.nodes))
    ∙ after_at rs (o + length_mm r) (j + 1) n none (λ q m. sized q (inr m)) (omega arith) ∙ same

pub path_at : (rs : List Route) (n : ℕ) (none : PathNode) → ((r : Route) → In r rs → Sized r) → n < length rs → (get_or (path_nodes rs) (sum_by edges (take (suc n) rs)) none).event.granted ≡ n + 1
path_at [] n none sized h = absurd (omega arith)
path_at (r ∷ rs) zero none sized h =
    let s = sized r (inl refl) in
    let long = s.nodes in
    let place : sum_by edges (take 1 (r ∷ rs)) ≡ edges r = let c : sum_by edges (take 1 (r ∷ rs)) ≡ edges r + 0 = sum_by-cons edges r [] in omega arith in
    let here = path_nodes_of 0 1 r in
    let many : length here ≡ suc (edges r) = length-map (node_at 0 1) r.nodes ∙ long in
    let more = path_nodes_after (length_mm r) 2 rs in
    ap (λ i. (get_or (here ++ more) i none).event.granted) place
    ∙ ap (λ (p : PathNode). p.event.granted) (left_at here more (edges r) none (omega arith))
    ∙ command_of 0 1 r.nodes (edges r) none (omega arith)
path_at (r ∷ rs) (suc n) none sized h =
    let s = sized r (inl refl) in
    let c = sum_by-cons edges r (take (suc n) rs) in
    let some = some_edges rs n (λ q m. sized q (inr m)) (omega arith) in
    let rest = sum_by edges (take (suc n) rs) in
    let place : sum_by edges (take (suc (suc n)) (r ∷ rs)) ≡ suc (edges r) + (rest - 1) = omega arith in
    let here = path_nodes_of 0 1 r in
    let more = path_nodes_after (length_mm r) 2 rs in
    let same : 2 + n ≡ suc n + 1 = omega arith in
    ap (λ i. (get_or (here ++ more) i none).event.granted) place
    ∙ ap (λ (p : PathNode). p.event.granted) (right_at here more (suc (edges r)) (rest - 1) none (length-map (node_at 0 1) r.nodes ∙ s.nodes))
    ∙ after_at rs (length_mm r) 2 n none (λ q m. sized q (inr m)) (omega arith) ∙ same

-- ---- routes of a design

length-ends : (d : Station) (o : ℕ) (es : List EdgeNo) → length (edge_ends d o es) ≡ length es
length-ends d o [] = refl
length-ends d o (e ∷ es) = ap suc (length-ends d (o + length_of d e) es)

edges_there : (d : Station) (es : List EdgeNo) → 1 ≤ sum_by (length_of d) es → 1 ≤ length es
edges_there d [] h = h
edges_there d (e ∷ es) h = omega arith

pub sized_told : (d : Station) → IsAdmitted d → (r : Route) → In r (routes_of d) → Sized r
sized_told d good r m =
    let t = told d good r m in
    record {
      nodes = sym (length-map (λ (n : NodeNo × ℤ). n.1) r.nodes) ∙ ap length t.nodes_at ∙ ap suc (length-map _ (edge_ends d 0 r.edges) ∙ length-ends d 0 r.edges);
      some = edges_there d r.edges t.long;
    }

-- the edges of the first routes of a path, by their numbers
pub edges_named : (routes : List Route) (ps : List RouteNo) (n : ℕ) → sum_by (λ r. edges (route_at routes r)) (take n ps) ≡ sum_by edges (take n (map (route_at routes) ps))
edges_named routes ps zero = refl
edges_named routes [] (suc n) = refl
edges_named routes (p ∷ ps) (suc n) =
    sum_by-cons (λ r. edges (route_at routes r)) p (take n ps) ∙ ap (λ m. edges (route_at routes p) + m) (edges_named routes ps n)
    ∙ sym (sum_by-cons edges (route_at routes p) (take n (map (route_at routes) ps)))
