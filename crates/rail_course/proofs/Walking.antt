-- The nodes of a path, route by route.
use Rattle.std.proofs.Common.{◌≡◌, ℕ, suc, ◌+◌, ◌<◌, ◌≤◌, Option, List, [], ◌∷◌, ◌++◌, All, map, nat_abs, ℤ, ◌^◌, refl, sym, ap, subst, ◌∙◌, append_assoc, arith}
use Rattle.rail_base.specs.declared.station.NodeNo.{NodeNo}
use Rattle.rail_base.specs.declared.route.Route.{Route}
use Rattle.rail_base.specs.declared.route.RouteNo.{RouteNo}
use Rattle.rail_base.specs.declared.state.PathNode.{PathNode}
use Rattle.rail_base.specs.Numbering.{after_first, first_of_list, from_first}
use Rattle.rail_base.specs.Routes.{route_at, length_mm}
use Rattle.rail_spec.specs.Plans.{has_node}
use Rattle.rail_spec.specs.Places.{path_nodes_after, visits_at}
use Rattle.rail_course.specs.Tracks.{routes_at}
use Rattle.rail_course.specs.PathNodes.{path_node_at}

pub after_first-map : {X Y : Type 0} (f : X → Y) (xs : List X) → after_first (map f xs) ≡ map f (after_first xs)
after_first-map f [] = refl
after_first-map f (x ∷ xs) = refl

pub All-after : {X : Type 0} (P : X → Type 0) (xs : List X) → All P xs → All P (after_first xs)
All-after P [] h = h
All-after P (x ∷ xs) h = λ k other l. h (suc k) other (omega arith)

-- the nodes of one more route
pub path_nodes_step : (routes : List Route) (old new all : List PathNode) (o j : ℕ) (r : RouteNo) (rest : List RouteNo)
    → new ≡ old ++ map (path_node_at o j) (after_first (route_at routes r).nodes)
    → old ++ path_nodes_after o j (routes_at routes (r ∷ rest)) ≡ all
    → new ++ path_nodes_after (o + length_mm (route_at routes r)) (j + 1) (routes_at routes rest) ≡ all
path_nodes_step routes old new all o j r rest made before =
    let nodes = (route_at routes r).nodes in
    let later = path_nodes_after (o + length_mm (route_at routes r)) (j + 1) (routes_at routes rest) in
    ap (λ ss. ss ++ later) made ∙ append_assoc old (map (path_node_at o j) (after_first nodes)) later
    ∙ ap (λ ss. old ++ (ss ++ later)) (sym (after_first-map (path_node_at o j) nodes)) ∙ before

-- the nodes of a route that begins early enough are within range
pub fit_all : (o : ℕ) (r : Route) (nodes : List (NodeNo × ℤ)) → nodes ≡ r.nodes → All (λ (p : NodeNo × ℤ). nat_abs p.1 ≤ length_mm r) r.nodes → o + length_mm r < 2 ^ 48 → All (λ (p : NodeNo × ℤ). o + nat_abs p.1 < 2 ^ 48) nodes
fit_all o r nodes same within short = λ k other l.
    let here = (subst (All (λ (p : NodeNo × ℤ). nat_abs p.1 ≤ length_mm r)) (sym same) within) k other l in
    omega arith

pub fit_after : (o : ℕ) (r : Route) (nodes : List (NodeNo × ℤ)) → nodes ≡ after_first r.nodes → All (λ (p : NodeNo × ℤ). nat_abs p.1 ≤ length_mm r) r.nodes → o + length_mm r < 2 ^ 48 → All (λ (p : NodeNo × ℤ). o + nat_abs p.1 < 2 ^ 48) nodes
fit_after o r nodes same within short = λ k other l.
    let here = (subst (All (λ (p : NodeNo × ℤ). nat_abs p.1 ≤ length_mm r)) (sym same) (All-after (λ (p : NodeNo × ℤ). nat_abs p.1 ≤ length_mm r) r.nodes within)) k other l in
    omega arith

-- one more visit
pub visits_step : (old new all : List (Option PathNode)) (set : List NodeNo) (sets : List (List NodeNo)) (left later here : List PathNode) (first : Option PathNode)
    → here ≡ from_first (λ p. has_node set p.node) left → first ≡ first_of_list here → later ≡ after_first here → new ≡ old ++ first ∷ []
    → old ++ visits_at (set ∷ sets) left ≡ all → new ++ visits_at sets later ≡ all
visits_step old new all set sets left later here first at one behind made before =
    let here' = from_first (λ p. has_node set p.node) left in
    ap (λ vs. vs ++ visits_at sets later) made ∙ append_assoc old (first ∷ []) (visits_at sets later)
    ∙ ap (λ v. old ++ (v ∷ visits_at sets later)) (one ∙ ap first_of_list at)
    ∙ ap (λ ps. old ++ (first_of_list here' ∷ visits_at sets ps)) (behind ∙ ap after_first at) ∙ before
