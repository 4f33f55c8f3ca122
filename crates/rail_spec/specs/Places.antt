-- The nodes of a path, where on it visits are made, and at which of these a train has still to stand.
use Rattle.std.specs.Prelude.{ℕ, zero, suc, ◌+◌, ◌-◌, Bool, false, if◌then◌else◌, List, [], ◌∷◌, ◌++◌, map, nat_abs}
use Rattle.std.specs.Prelude.{nat_lt, Option, None}
use Rattle.std.specs.List.{list_any}
use Rattle.rail_base.specs.declared.station.NodeNo.{NodeNo}
use Rattle.rail_base.specs.declared.route.Route.{Route}
use Rattle.rail_base.specs.declared.state.PathNode.{PathNode}
use Rattle.rail_base.specs.Numbering.{from_first, first_of_list, after_first}
use Rattle.rail_spec.specs.Plans.{length_mm, has_node, starts_in}

-- the nodes of a route that begins there and has that number in the path
abbrev pub path_nodes_of : ℕ → ℕ → Route → List PathNode
path_nodes_of offset j r =
    map (λ p. record { node = p.0; event = record { granted = j; place = offset + nat_abs p.1 } }) r.nodes

-- those at the ends of the edges of further routes
abbrev pub path_nodes_after : ℕ → ℕ → List Route → List PathNode
path_nodes_after offset j [] = []
path_nodes_after offset j (r ∷ rs) = after_first (path_nodes_of offset j r) ++ path_nodes_after (offset + length_mm r) (j + 1) rs

-- the nodes of a path: its start, and the end of each edge
abbrev pub path_nodes : List Route → List PathNode
path_nodes [] = []
path_nodes (r ∷ rs) = path_nodes_of 0 1 r ++ path_nodes_after (length_mm r) 2 rs

-- each set is visited at the first node that is in it, after the visit before
abbrev pub visits_at : List (List NodeNo) → List PathNode → List (Option PathNode)
visits_at [] ps = []
visits_at (set ∷ sets) ps =
    let here = from_first (λ p. has_node set p.node) ps in
    first_of_list here ∷ visits_at sets (after_first here)

-- where a train's visits are made on a path: the first at the start
abbrev pub visits_on : List (List NodeNo) → List PathNode → List (Option PathNode)
visits_on [] ps = []
visits_on (first ∷ later) ps = first_of_list ps ∷ visits_at later (after_first ps)

-- where a train has still to stand, by the ticks that it stands at each visit, where the visits are made, and how many
-- ticks it has stood in all: at the first visit whose ticks, with those of the visits before it, are more than that
abbrev pub next_stop : List ℕ → List (Option PathNode) → ℕ → Option PathNode
next_stop (w ∷ ws) (p ∷ ps) stood = if nat_lt stood w then p else next_stop ws ps (stood - w)
next_stop _ _ _ = None

-- a node of the set is at the end of an edge of the route
abbrev pub leads_to : List NodeNo → Route → Bool
leads_to set r = list_any (λ p. has_node set p.0) (after_first r.nodes)

-- the visit of this number may be made on the route: the first at its start, and others at the end of an edge
abbrev pub may_visit : ℕ → List NodeNo → Route → Bool
may_visit zero set r = false
may_visit (suc zero) set r = starts_in set r.start
may_visit (suc (suc k)) set r = leads_to set r
