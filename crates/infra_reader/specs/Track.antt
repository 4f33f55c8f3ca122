-- Where the track does not hold together.
use Rattle.std.specs.Prelude.{ℕ, ◌+◌, ◌-◌, Bool, not, ◌&&◌, ◌||◌, ◌==◌, nat_le, List, [], ◌∷◌, ◌++◌, flat_map, take}
use Rattle.std.specs.Prelude.{count_by}
use Rattle.std.specs.List.{list_any}
use Rattle.design_table.specs.declared.place.EntryKind.TheVariants as kinds
use Rattle.design_table.specs.declared.place.Place.{Place}
use Rattle.design_table.specs.declared.place.Place.TheVariants.{Entry}
use Rattle.design_table.specs.Reads.{at, in_each}
use Rattle.rail_base.specs.declared.station.Station.{Station}
use Rattle.rail_base.specs.declared.station.Node.{Node}
use Rattle.rail_base.specs.declared.station.Edge.{Edge}
use Rattle.rail_base.specs.declared.station.End.{End}
use Rattle.rail_base.specs.declared.station.Signal.{Signal}
use Rattle.rail_base.specs.declared.station.Side.{Side}
use Rattle.rail_base.specs.declared.station.Side.TheVariants.{A, B}
use Rattle.rail_base.specs.Stations.{is_side, is_end, node_of}

-- a side of the node of this number
abbrev pub end_at : ℕ → Side → End
end_at n side = record { node = record { 0 = n }; side = side }

-- the two ends of an edge
abbrev pub both_ends : Edge → List End
both_ends e = e.from ∷ e.to ∷ []

-- the ends of all edges, two of each
abbrev pub edge_ends : List Edge → List End
edge_ends edges = flat_map both_ends edges

-- how many edge ends are at a side of the node of this number
unfoldable pub ends_at : Station → ℕ → Side → ℕ
ends_at d n side = count_by (λ end. is_end end (end_at n side)) (edge_ends d.edges)

-- more than two edge ends at a side, or two at both
abbrev pub is_crowded : Station → ℕ → Bool
is_crowded d n =
    nat_le 3 (ends_at d n A) || nat_le 3 (ends_at d n B) || (nat_le 2 (ends_at d n A) && nat_le 2 (ends_at d n B))

-- an edge with both ends at one node
abbrev pub is_loop : Edge → Bool
is_loop e = e.from.node.0 == e.to.node.0

-- D06: crowded nodes, and then edges that are loops
unfoldable pub crowded : Station → List Place
crowded d =
    in_each (λ i n. at (is_crowded d i) (Entry kinds.Node i)) d.nodes
    ++ in_each (λ i e. at (is_loop e) (Entry kinds.Edge i)) d.edges

-- a boundary with no edge end, or with more than one
abbrev pub is_open : Station → ℕ → Node → Bool
is_open d i n = n.boundary && not (ends_at d i A + ends_at d i B == 1)

-- D07: boundaries with no edge end, or with more than one
unfoldable pub open_boundaries : Station → List Place
open_boundaries d = in_each (λ i n. at (is_open d i n) (Entry kinds.Node i)) d.nodes

-- signals at one node, for one side
abbrev pub is_beside : Signal → Signal → Bool
is_beside s q = (s.node.0 == q.node.0) && is_side s.toward q.toward

-- at a boundary, or beside an earlier one
abbrev pub is_misplaced : Station → ℕ → Signal → Bool
is_misplaced d i s = (node_of d s.node).boundary || list_any (λ q. is_beside q s) (take (i - 1) d.signals)

-- D08: signals at boundaries, and later ones for a node and side that have one
unfoldable pub misplaced_signals : Station → List Place
misplaced_signals d = in_each (λ i s. at (is_misplaced d i s) (Entry kinds.Signal i)) d.signals
