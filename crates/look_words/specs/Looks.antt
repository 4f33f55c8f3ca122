-- What a designer should look at: what is allowed, and seldom meant.
use Rattle.std.specs.Prelude.{ℕ, Bool, not, ◌&&◌, ◌||◌, ◌==◌, nat_lt, List, [], ◌∷◌, ◌++◌, codes, decimal, length, if◌then◌else◌}
use Rattle.std.specs.List.{flat_map, list_any}
use Rattle.rail_base.specs.declared.station.Edge.{Edge}
use Rattle.rail_base.specs.declared.station.NodeNo.{NodeNo}
use Rattle.rail_base.specs.declared.station.Station.{Station}
use Rattle.rail_base.specs.declared.station.Vehicle.{Vehicle}
use Rattle.rail_base.specs.Names.{node_name}
use Rattle.rail_base.specs.Numbering.{one_to}
use Rattle.rail_base.specs.Stations.{node_of, within_of}
use Rattle.rail_spec.specs.Plans.{has_node}
use Rattle.asked_words.specs.Quantities.{duration_text, metres_text, speed_text}

-- the line, where this is so
abbrev pub where_so : Bool → List ℕ → List (List ℕ)
where_so test line = if test then line ∷ [] else []

-- ---- edges and vehicles: slower than 1 m/s, or shorter than 1 m

-- `edge x1 has a limit of 0.9 km/h`
abbrev pub slow_edge : Edge → List (List ℕ)
slow_edge e = where_so (nat_lt e.speed_mm_s 1000) (codes "edge " ++ e.name ++ codes " has a limit of " ++ speed_text e.speed_mm_s ++ codes "\n")

-- `edge x1 is 0.7 m long`
abbrev pub short_edge : Edge → List (List ℕ)
short_edge e = where_so (nat_lt e.length_mm 1000) (codes "edge " ++ e.name ++ codes " is " ++ metres_text e.length_mm ++ codes " long\n")

abbrev pub edge_looks : Edge → List (List ℕ)
edge_looks e = slow_edge e ++ short_edge e

-- `vehicle ic goes at most 0.9 km/h`
abbrev pub slow_vehicle : Vehicle → List (List ℕ)
slow_vehicle v = where_so (nat_lt v.speed_mm_s 1000) (codes "vehicle " ++ v.name ++ codes " goes at most " ++ speed_text v.speed_mm_s ++ codes "\n")

-- `vehicle ic is 0.2 m long`
abbrev pub short_vehicle : Vehicle → List (List ℕ)
short_vehicle v = where_so (nat_lt v.length_mm 1000) (codes "vehicle " ++ v.name ++ codes " is " ++ metres_text v.length_mm ++ codes " long\n")

abbrev pub vehicle_looks : Vehicle → List (List ℕ)
vehicle_looks v = slow_vehicle v ++ short_vehicle v

module _ (d : Station) where
  -- ---- nodes: without an edge, or a boundary that no train uses

  -- an edge ends at the node
  abbrev pub has_edge : NodeNo → Bool
  has_edge n = list_any (λ e. e.from.node.0 == n.0 || e.to.node.0 == n.0) d.edges

  -- `no edge ends at node x`
  abbrev pub lone_node_line : NodeNo → List ℕ
  lone_node_line n = codes "no edge ends at node " ++ node_name d n ++ codes "\n"

  abbrev pub lone_node : NodeNo → List (List ℕ)
  lone_node n = where_so (not (has_edge n)) (lone_node_line n)

  -- a visit of a train lists the node
  abbrev pub is_used : NodeNo → Bool
  is_used n = list_any (λ t. list_any (λ set. has_node set n) t.visits) d.trains

  -- a boundary that no train uses
  abbrev pub is_unused : NodeNo → Bool
  is_unused n = (node_of d n).boundary && not (is_used n)

  -- `no train uses boundary x`
  abbrev pub unused_boundary_line : NodeNo → List ℕ
  unused_boundary_line n = codes "no train uses boundary " ++ node_name d n ++ codes "\n"

  abbrev pub unused_boundary : NodeNo → List (List ℕ)
  unused_boundary n = where_so (is_unused n) (unused_boundary_line n)

  abbrev pub node_looks : NodeNo → List (List ℕ)
  node_looks n = lone_node n ++ unused_boundary n

  -- the same by the node's number
  abbrev pub looks_of_node : ℕ → List (List ℕ)
  looks_of_node n = node_looks (record { 0 = n })

  -- ---- greatest times below 10 s

  -- `within 1 allows 9.5 s`
  abbrev pub within_looks : ℕ → List (List ℕ)
  within_looks k =
      let w = within_of d k in
      where_so (nat_lt w.max_ms 10000) (codes "within " ++ decimal k ++ codes " allows " ++ duration_text w.max_ms ++ codes "\n")

  -- ---- all

  abbrev pub looks : List (List ℕ)
  looks =
      flat_map looks_of_node (one_to (length d.nodes))
      ++ flat_map edge_looks d.edges
      ++ flat_map vehicle_looks d.vehicles
      ++ flat_map within_looks (one_to (length d.withins))
