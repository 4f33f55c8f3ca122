-- Track: the edges at an end, and the elementary routes of a design.
use Rattle.std.specs.Prelude.{ℕ, zero, suc, ◌+◌, Bool, not, ◌==◌, if◌then◌else◌, List, [], ◌∷◌, ◌++◌, map}
use Rattle.std.specs.Prelude.{filter, flat_map, length, take, ℤ, pos, Option, None, Some, sum_by, fold, max}
use Rattle.std.specs.Prelude.{is_none, option_map, unwrap_or}
use Rattle.std.specs.Option.{option_or}
use Rattle.std.specs.List.{list_any}
use Rattle.rail_base.specs.declared.station.Station.{Station}
use Rattle.rail_base.specs.declared.station.End.{End}
use Rattle.rail_base.specs.declared.station.Overlap.{Overlap}
use Rattle.rail_base.specs.declared.station.Side.TheVariants.{A, B}
use Rattle.rail_base.specs.declared.station.NodeNo.{NodeNo}
use Rattle.rail_base.specs.declared.station.EdgeNo.{EdgeNo}
use Rattle.rail_base.specs.declared.station.SectionNo.{SectionNo}
use Rattle.rail_base.specs.declared.station.SignalNo.{SignalNo}
use Rattle.rail_base.specs.declared.route.Route.{Route}
use Rattle.rail_base.specs.declared.route.OverlapSection.{OverlapSection}
use Rattle.rail_base.specs.declared.route.Start.{Start}
use Rattle.rail_base.specs.declared.route.Start.TheVariants as start
use Rattle.rail_base.specs.declared.route.Finish.{Finish}
use Rattle.rail_base.specs.declared.route.Finish.TheVariants as finish
use Rattle.rail_base.specs.Numbering.{one_to, first_of_list}
use Rattle.rail_base.specs.Stations.{is_end, through, far_end, edge_of, node_of, signal_of, leave, length_of}
use Rattle.rail_base.specs.Stations.{section_of, no_overlap, overlap_at}

-- the numbers of all signals
abbrev pub signal_numbers : Station → List SignalNo
signal_numbers d = map (λ n. record { 0 = n }) (one_to (length d.signals))

-- the end by which trains leave for which a signal is
abbrev pub signal_end : Station → SignalNo → End
signal_end d s = record { node = (signal_of d s).node; side = (signal_of d s).toward }

-- the signals for trains that leave by this end
abbrev pub signals_at : Station → End → List SignalNo
signals_at d end = filter (λ s. is_end (signal_end d s) end) (signal_numbers d)

-- there is none
abbrev pub is_empty : {X : Type 0} → List X → Bool
is_empty xs = is_none (first_of_list xs)

-- where routes start, in the order of their nodes, and at one node toward a before toward b
abbrev pub starts_at : Station → NodeNo → List Start
starts_at d n = if (node_of d n).boundary
    then start.Boundary n ∷ []
    else map start.Signal (signals_at d (record { node = n; side = A }) ++ signals_at d (record { node = n; side = B }))

-- all starts, in order
abbrev pub starts : Station → List Start
starts d = flat_map (λ n. starts_at d (record { 0 = n })) (one_to (length d.nodes))

-- the end by which a route leaves its start: of a boundary, the one where its edge is
abbrev pub start_end : Station → Start → End
start_end d (start.Boundary n) =
    if is_empty (leave d (record { node = n; side = A })) then record { node = n; side = B }
    else record { node = n; side = A }
start_end d (start.Signal s) = signal_end d s

-- how a route ends that reaches a node by this end, if it ends there: at a boundary, or at the first signal for its train, or
-- where no edge goes on
abbrev pub finish_at : Station → End → Option Finish
finish_at d end =
    let signal = option_map finish.Signal (first_of_list (signals_at d (through end))) in
    let dead_end = if is_empty (leave d (through end)) then Some (finish.DeadEnd end.node) else None in
    if (node_of d end.node).boundary then Some (finish.Exit end.node) else option_or signal dead_end

-- the edge is one of these
abbrev pub has_edge : List EdgeNo → EdgeNo → Bool
has_edge es e = list_any (λ f. f.0 == e.0) es

-- how a path closes: as a whole route, or badly, at an edge that is met again
pub data Walk : Type 0 where
  Whole : List EdgeNo → Finish → Walk
  RepeatsEdge : EdgeNo → Walk

-- all closed paths that go on over further edges from an end, those over an earlier edge first
abbrev pub walks : ℕ → Station → List EdgeNo → End → List Walk
walks zero d path end = []
walks (suc edges) d path end = flat_map (λ e.
    let there = far_end (edge_of d e) end in
    let longer = path ++ e ∷ [] in
    let further = walks edges d longer (through there) in
    let closed = option_map (λ f. Whole longer f ∷ []) (finish_at d there) in
    if has_edge path e then RepeatsEdge e ∷ [] else unwrap_or closed further) (leave d end)

-- all closed paths from a start
abbrev pub walks_from : Station → Start → List Walk
walks_from d s = walks (length d.edges + 1) d [] (start_end d s)

-- the edges of a path, each with the offset of its end
abbrev pub edge_ends : Station → ℕ → List EdgeNo → List (EdgeNo × ℕ)
edge_ends d offset [] = []
edge_ends d offset (e ∷ es) = (e, offset + length_of d e) ∷ edge_ends d (offset + length_of d e) es

-- the nodes at the ends of the edges of a path that leaves by this end
abbrev pub nodes_along : Station → End → List EdgeNo → List NodeNo
nodes_along d end [] = []
nodes_along d end (e ∷ es) = let there = far_end (edge_of d e) end in there.node ∷ nodes_along d (through there) es

-- each node with the offset at which its edge ends
abbrev pub with_offsets : List NodeNo → List (EdgeNo × ℕ) → List (NodeNo × ℤ)
with_offsets (n ∷ ns) (e ∷ es) = (n, pos e.1) ∷ with_offsets ns es
with_offsets _ _ = []

-- each section once, by its first occurrence
abbrev pub first_occurrences : List SectionNo → List SectionNo
first_occurrences [] = []
first_occurrences (z ∷ zs) = z ∷ filter (λ y. not (y.0 == z.0)) (first_occurrences zs)

-- the offset of the end of the last edge of this section
abbrev pub last_end : Station → SectionNo → List (EdgeNo × ℕ) → ℕ
last_end d z ends = fold max 0 (map (λ e. e.1) (filter (λ e. (section_of d e.0).0 == z.0) ends))

-- the overlap at the signal where a route ends, or the one that none is
abbrev pub end_overlap : Station → Finish → Overlap
end_overlap d (finish.Signal s) = overlap_at d s
end_overlap d _ = no_overlap

-- the sections of an overlap that aren't own, each once, in the order listed
abbrev pub overlap_sections : Overlap → List SectionNo → List OverlapSection
overlap_sections o own = map (λ z. record { section = z; hold_ms = o.hold_ms })
    (filter (λ z. not (list_any (λ y. y.0 == z.0) own)) (first_occurrences o.sections))

-- the route with these edges
abbrev pub route_of : Station → Start → List EdgeNo → Finish → Route
route_of d s path f =
    let ends = edge_ends d 0 path in
    let from = start_end d s in
    let own = first_occurrences (map (section_of d) path) in
    record {
      start = s;
      finish = f;
      length = pos (sum_by (length_of d) path);
      edges = path;
      nodes = (from.node, pos 0) ∷ with_offsets (nodes_along d from path) ends;
      sections = map (λ z. (z, pos (last_end d z ends))) own;
      overlaps = overlap_sections (end_overlap d f) own;
    }

-- the route of a closed path, if it closes well
abbrev pub route_from : Station → Start → Walk → List Route
route_from d s (Whole path finish) = route_of d s path finish ∷ []
route_from d s (RepeatsEdge e) = []

-- the edge that is met again, if one is
abbrev pub bad_edge : Walk → List EdgeNo
bad_edge (Whole path finish) = []
bad_edge (RepeatsEdge e) = e ∷ []

-- all closed paths, in order
abbrev pub all_walks : Station → List Walk
all_walks d = flat_map (walks_from d) (starts d)

-- the edges met again by the first 2,001 closed paths
abbrev pub edges_met_again : Station → List EdgeNo
edges_met_again d = flat_map bad_edge (take 2001 (all_walks d))

-- the elementary routes
abbrev pub routes_of : Station → List Route
routes_of d = flat_map (λ s. flat_map (route_from d s) (walks_from d s)) (starts d)
