-- Visits, by the sets of their nodes.
use Rattle.std.proofs.Common.{◌≡◌, ℕ, zero, suc, ◌≤◌, ℤ, ◌||◌, List, [], ◌∷◌, refl, ap₂, arith}
use Rattle.std.specs.List.{list_any}
use Rattle.rail_base.specs.declared.station.NodeNo.{NodeNo}
use Rattle.rail_base.specs.declared.station.Station.{Station}
use Rattle.rail_base.specs.declared.route.Route.{Route}
use Rattle.rail_base.specs.declared.route.RouteNo.{RouteNo}
use Rattle.rail_base.specs.Numbering.{after_first}
use Rattle.rail_base.specs.Routes.{route_at}
use Rattle.rail_spec.specs.Plans.{has_node}
use Rattle.clause_spec.specs.Clauses.{may_visit}
use Rattle.number_sets.specs.declared.set.NumberSet.{NumberSet}
use Rattle.number_sets.specs.Sets.{contains}
use Rattle.plan_encoding.specs.Nodes.{IsNodeSet}

-- nodes of a list, by their set
pub nodes_met : {X : Type 0} (node : X → NodeNo) (set : NumberSet) (nodes : List NodeNo) → IsNodeSet set nodes → (xs : List X) → list_any (λ x. contains set (node x).0) xs ≡ list_any (λ x. has_node nodes (node x)) xs
nodes_met node set nodes h [] = refl
nodes_met node set nodes h (x ∷ xs) = ap₂ (λ a b. a || b) (h (node x)) (nodes_met node set nodes h xs)

-- a visit after the first may be made at the end of an edge
pub later_visit : (d : Station) (routes : List Route) (n number : ℕ) (nodes : List NodeNo) (set : NumberSet) (r : RouteNo) → 1 ≤ number → (number ≡ 1 → ⊥) → IsNodeSet set nodes
    → list_any (λ p. contains set p.0.0) (after_first (route_at routes r).nodes) ≡ may_visit d routes n number nodes r
later_visit d routes n zero nodes set r a b h = absurd (omega arith)
later_visit d routes n (suc zero) nodes set r a b h = absurd (omega (arith, b))
later_visit d routes n (suc (suc k)) nodes set r a b h = nodes_met (λ (p : NodeNo × ℤ). p.0) set nodes h (after_first (route_at routes r).nodes)
