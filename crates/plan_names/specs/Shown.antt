-- The names by which routes are shown: those of their edges, in order.
use Rattle.std.specs.Prelude.{ℕ, ◌+◌, ◌==◌, ℤ, Bool, true, false, ◌&&◌, List, [], ◌∷◌, ◌++◌, map, filter, length}
use Rattle.std.specs.Prelude.{nat_le, bytes_eq, Option, option_map, position, codes, if◌then◌else◌}
use Rattle.rail_base.specs.declared.station.Station.{Station}
use Rattle.rail_base.specs.declared.station.NodeNo.{NodeNo}
use Rattle.rail_base.specs.declared.station.EdgeNo.{EdgeNo}
use Rattle.rail_base.specs.declared.route.Route.{Route}
use Rattle.rail_base.specs.declared.route.RouteNo.{RouteNo}
use Rattle.rail_base.specs.Stations.{edge_of}

-- the name of an edge
abbrev pub edge_name : Station → EdgeNo → List ℕ
edge_name d e = (edge_of d e).name

-- the names of the edges of a route
abbrev pub edge_names : Station → Route → List (List ℕ)
edge_names d r = map (edge_name d) r.edges

-- which way an edge is run from this node: `>` from its `from` to its `to`, and `<` back
abbrev pub direction : Station → EdgeNo → NodeNo → List ℕ
direction d e n = if (edge_of d e).from.node.0 == n.0 then codes ">" else codes "<"

-- the names of edges, each with its direction from the node before it
abbrev pub directed : Station → List EdgeNo → List (NodeNo × ℤ) → List (List ℕ)
directed d (e ∷ es) (n ∷ ns) = (edge_name d e ++ direction d e n.0) ∷ directed d es ns
directed d _ _ = []

-- the names of the edges of a route, each with its direction
abbrev pub directed_names : Station → Route → List (List ℕ)
directed_names d r = directed d r.edges r.nodes

-- the same names in the same order
abbrev pub same_names : List (List ℕ) → List (List ℕ) → Bool
same_names [] [] = true
same_names (x ∷ xs) (y ∷ ys) = bytes_eq x y && same_names xs ys
same_names [] (y ∷ ys) = false
same_names (x ∷ xs) [] = false

-- the routes with these names of edges
abbrev pub routes_over : Station → List Route → List (List ℕ) → List Route
routes_over d routes names = filter (λ q. same_names (edge_names d q) names) routes

-- several routes run over these edges in this order
abbrev pub is_shared : Station → List Route → List (List ℕ) → Bool
is_shared d routes names = nat_le 2 (length (routes_over d routes names))

-- the names by which a route is shown: of its edges, with directions where several routes have these
abbrev pub shown : Station → List Route → Route → List (List ℕ)
shown d routes r = if is_shared d routes (edge_names d r) then directed_names d r else edge_names d r

-- the route whose names these are, where those of all routes are listed by number
abbrev pub number_among : List (List (List ℕ)) → List (List ℕ) → Option RouteNo
number_among all names = option_map (λ i. record { 0 = i + 1 }) (position (λ shown. same_names shown names) all)

-- the route that is shown by these names
abbrev pub number_named : Station → List Route → List (List ℕ) → Option RouteNo
number_named d routes names = number_among (map (shown d routes) routes) names
