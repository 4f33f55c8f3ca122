-- Elementary routes in railway words, apart from the search that lists them.
use Rattle.std.specs.Prelude.{◌≡◌, ◌⊎◌, ℕ, ◌≤◌, ◌<◌, true, false, List, [], ◌∷◌, ◌++◌, map, ℤ, pos, sum_by}
use Rattle.rail_base.specs.declared.station.Station.{Station}
use Rattle.rail_base.specs.declared.station.End.{End}
use Rattle.rail_base.specs.declared.station.Side.{Side}
use Rattle.rail_base.specs.declared.station.Side.TheVariants.{A, B}
use Rattle.rail_base.specs.declared.station.NodeNo.{NodeNo}
use Rattle.rail_base.specs.declared.station.EdgeNo.{EdgeNo}
use Rattle.rail_base.specs.declared.station.SectionNo.{SectionNo}
use Rattle.rail_base.specs.declared.station.SignalNo.{SignalNo}
use Rattle.rail_base.specs.declared.route.Route.{Route}
use Rattle.rail_base.specs.declared.route.OverlapSection.{OverlapSection}
use Rattle.rail_base.specs.declared.route.Start.{Start}
use Rattle.rail_base.specs.declared.route.Start.TheVariants as start
use Rattle.rail_base.specs.declared.route.Finish.{Finish}
use Rattle.rail_base.specs.declared.route.Finish.TheVariants as finish
use Rattle.rail_base.specs.Members.{In, Pairs, Differ}
use Rattle.rail_base.specs.Routes.{goes_over}
use Rattle.rail_base.specs.Stations.{IsNode, IsEdge, IsSignal, edge_of, node_of, signal_of, through, far_end, length_of}
use Rattle.rail_base.specs.Stations.{section_of}
use Rattle.rail_spec.specs.Track.{route_of, edge_ends, first_occurrences, all_walks, end_overlap, RepeatsEdge}

-- ---- what stands at an end

-- an edge has one of its ends there
abbrev pub IsAt : Station → EdgeNo → End → Type 0
IsAt d e end = IsEdge d e × (((edge_of d e).from ≡ end) ⊎ ((edge_of d e).to ≡ end))

-- a signal stands there for trains that leave by it
abbrev pub Governs : Station → SignalNo → End → Type 0
Governs d s end = IsSignal d s × ((signal_of d s).node ≡ end.node) × ((signal_of d s).toward ≡ end.side)

-- ---- where routes start and end

-- routes start at boundaries and at signals
abbrev pub IsStart : Station → Start → Type 0
IsStart d (start.Boundary n) = IsNode d n × ((node_of d n).boundary ≡ true)
IsStart d (start.Signal s) = IsSignal d s

-- a route from there leaves by this end: from a boundary by any, and from a signal by its own
abbrev pub LeavesBy : Station → Start → End → Type 0
LeavesBy d (start.Boundary n) end = n ≡ end.node
LeavesBy d (start.Signal s) end = ((signal_of d s).node ≡ end.node) × ((signal_of d s).toward ≡ end.side)

-- a route that reaches a node by this end ends there, and how
abbrev pub EndsAt : Station → End → Finish → Type 0
EndsAt d end (finish.Exit n) = (n ≡ end.node) × ((node_of d end.node).boundary ≡ true)
EndsAt d end (finish.Signal s) = Governs d s (through end) × ((node_of d end.node).boundary ≡ false)
EndsAt d end (finish.DeadEnd n) = (n ≡ end.node) × ((node_of d end.node).boundary ≡ false)
    × ((s : SignalNo) → Governs d s (through end) → ⊥) × ((e : EdgeNo) → IsAt d e (through end) → ⊥)

-- ---- walks

-- the first edge is at this end, and each further one at the other side of the node that is reached
abbrev pub IsWalk : Station → End → List EdgeNo → Type 0
IsWalk d end [] = Unit {0}
IsWalk d end (e ∷ es) = IsAt d e end × IsWalk d (through (far_end (edge_of d e) end)) es

-- the ends by which it reaches nodes
abbrev pub reached : Station → End → List EdgeNo → List End
reached d end [] = []
reached d end (e ∷ es) = let there = far_end (edge_of d e) end in there ∷ reached d (through there) es

-- a route ends at the last of them, so, and at none before
abbrev pub EndsFirst : Station → List End → Finish → Type 0
EndsFirst d [] f = ⊥
EndsFirst d (end ∷ []) f = EndsAt d end f
EndsFirst d (end ∷ next ∷ ends) f = ((g : Finish) → EndsAt d end g → ⊥) × EndsFirst d (next ∷ ends) f

-- these edges are an elementary route from this start with this finish
pub record IsElementary (d : Station) (s : Start) (edges : List EdgeNo) (f : Finish) : Type 0 where
  pub end : End
  pub leaves : LeavesBy d s end
  pub walk : IsWalk d end edges
  pub once : Differ edges
  pub ends : EndsFirst d (reached d end edges) f

-- a route of the design: elementary, with length, nodes and sections as its edges give them
pub record IsRouteOf (d : Station) (r : Route) : Type 0 where
  pub start : IsStart d r.start
  pub elementary : IsElementary d r.start r.edges r.finish
  pub is_route_of : route_of d r.start r.edges r.finish ≡ r

-- these edges lead from this start, no route ending on the way, to where this edge of them comes next
pub record ClosesBadly (d : Station) (s : Start) (edges : List EdgeNo) (e : EdgeNo) : Type 0 where
  pub end : End
  pub leaves : LeavesBy d s end
  pub walk : IsWalk d end (edges ++ e ∷ [])
  pub once : Differ edges
  pub open_so_far : (there : End) → In there (reached d end edges) → (f : Finish) → EndsAt d there f → ⊥
  pub again : In e edges

-- ---- their order

-- the node of a start
abbrev pub start_node : Station → Start → NodeNo
start_node d (start.Boundary n) = n
start_node d (start.Signal s) = (signal_of d s).node

-- the side of a start, a for a boundary
abbrev pub start_side : Station → Start → Side
start_side d (start.Boundary n) = A
start_side d (start.Signal s) = (signal_of d s).toward

-- at an earlier node, or at the same toward a
abbrev pub StartsBefore : Station → Start → Start → Type 0
StartsBefore d s q = ((start_node d s).0 < (start_node d q).0)
    ⊎ ((start_node d s ≡ start_node d q) × (start_side d s ≡ A) × (start_side d q ≡ B))

-- the first edge in which they differ has a smaller number
abbrev pub IsBefore : List EdgeNo → List EdgeNo → Type 0
IsBefore (e ∷ es) (g ∷ gs) = (e.0 < g.0) ⊎ ((e ≡ g) × IsBefore es gs)
IsBefore [] gs = ⊥
IsBefore (e ∷ es) [] = ⊥

-- by start, and then by edges
abbrev pub RouteBefore : Station → Route → Route → Type 0
RouteBefore d r q = StartsBefore d r.start q.start ⊎ ((r.start ≡ q.start) × IsBefore r.edges q.edges)

-- ---- what is said of a route

-- the last edge of a section, by where it ends
pub record EndsLast (d : Station) (edges : List EdgeNo) (z : SectionNo) (o : ℕ) : Type 0 where
  pub edge : EdgeNo
  pub there : In (edge, o) (edge_ends d 0 edges)
  pub on_section : section_of d edge ≡ z
  pub last : (g : EdgeNo) (p : ℕ) → In (g, p) (edge_ends d 0 edges) → section_of d g ≡ z → p ≤ o

-- length, sections and nodes of a route are as its edges give them
pub record IsAsItsEdges (d : Station) (r : Route) : Type 0 where
  pub length_is : r.length ≡ pos (sum_by (length_of d) r.edges)
  pub long : 1 ≤ sum_by (length_of d) r.edges
  -- its sections are those of its edges, each once, with where its last edge ends
  pub section_of_edge : (e : EdgeNo) → In e r.edges → (o : ℤ) × In (section_of d e, o) r.sections
  pub each_once : Pairs (λ (y z : SectionNo × ℤ). y.0 ≡ z.0 → ⊥) r.sections
  pub released_at : (z : SectionNo) (o : ℤ) → In (z, o) r.sections
      → (n : ℕ) × (o ≡ pos n) × EndsLast d r.edges z n × (1 ≤ n) × (n ≤ sum_by (length_of d) r.edges)
  pub sections_are : map (λ z. z.0) r.sections ≡ first_occurrences (map (section_of d) r.edges)
  -- its nodes are the start's at 0 and that at the end of each edge, ever farther
  pub nodes_are : (end : End) → LeavesBy d r.start end → IsWalk d end r.edges
      → map (λ n. n.0) r.nodes ≡ end.node ∷ map (λ e. e.node) (reached d end r.edges)
  pub nodes_at : map (λ n. n.1) r.nodes ≡ pos 0 ∷ map (λ e. pos e.1) (edge_ends d 0 r.edges)
  pub rising : Pairs (λ (m n : EdgeNo × ℕ). m.1 < n.1) (edge_ends d 0 r.edges)
  pub inside : (e : EdgeNo) (n : ℕ) → In (e, n) (edge_ends d 0 r.edges) → (1 ≤ n) × (n ≤ sum_by (length_of d) r.edges)
  pub whole : (e : EdgeNo) × In (e, sum_by (length_of d) r.edges) (edge_ends d 0 r.edges)

-- the overlap sections of a route are listed by the overlap at its end, are none of its own, and are there once each
pub record HasOverlapsBeside (d : Station) (r : Route) : Type 0 where
  pub listed : (p : OverlapSection) → In p r.overlaps → In p.section (end_overlap d r.finish).sections
  pub not_own : (p : OverlapSection) → In p r.overlaps → goes_over r p.section ≡ false
  pub each_once : Pairs (λ (p q : OverlapSection). p.section ≡ q.section → ⊥) r.overlaps

-- some path closes badly where this edge comes next
abbrev pub SomeClosesBadly : Station → EdgeNo → Type 0
SomeClosesBadly d e = (s : Start) × (edges : List EdgeNo) × IsStart d s × ClosesBadly d s edges e

-- the search meets no edge again
abbrev pub NoneRepeats : Station → Type 0
NoneRepeats d = (e : EdgeNo) → In (RepeatsEdge e) (all_walks d) → ⊥
