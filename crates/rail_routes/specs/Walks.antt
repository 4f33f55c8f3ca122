-- Paths over edges of a design.
use Rattle.std.specs.Prelude.{◌≡◌, ℕ, ◌≤◌, Bool, not, ◌&&◌, ◌==◌, List, ◌∷◌, length, map, ℤ, pos, slice_index}
use Rattle.std.specs.List.{list_any}
use Rattle.rail_base.specs.declared.station.Station.{Station}
use Rattle.rail_base.specs.declared.station.EdgeNo.{EdgeNo}
use Rattle.rail_base.specs.declared.station.End.{End}
use Rattle.rail_base.specs.declared.station.NodeNo.{NodeNo}
use Rattle.rail_base.specs.declared.station.SectionNo.{SectionNo}
use Rattle.rail_base.specs.declared.route.OverlapSection.{OverlapSection}
use Rattle.rail_base.specs.Members.{In}
use Rattle.rail_base.specs.Stations.{IsEdge, section_of}
use Rattle.rail_spec.specs.Track.{edge_ends, first_occurrences, last_end, nodes_along, with_offsets}

-- edges of the design, no more than it has
pub record AreEdges (d : Station) (path : List EdgeNo) : Type 0 where
  pub numbered : (e : EdgeNo) → In e path → IsEdge d e
  pub within_edges : length path ≤ length d.edges

-- the nodes of a path that leaves by this end, each with its offset
abbrev pub nodes_of : Station → End → List EdgeNo → List (NodeNo × ℤ)
nodes_of d from path = (from.node, pos 0) ∷ with_offsets (nodes_along d from path) (edge_ends d 0 path)

-- the sections of a path, each once, by its first occurrence
abbrev pub sections_along : Station → List EdgeNo → List SectionNo
sections_along d path = first_occurrences (map (section_of d) path)

-- each of them with the end of its last edge
abbrev pub sections_of : Station → List EdgeNo → List (SectionNo × ℤ)
sections_of d path = map (λ z. (z, pos (last_end d z (edge_ends d 0 path)))) (sections_along d path)

-- under the number of each section of the design is the end of its last edge on the path
abbrev pub AreLastEnds : Station → List EdgeNo → List ℕ → Type 0
AreLastEnds d path ends = (z : SectionNo) → z.0 ≤ length d.sections
    → slice_index ends z.0 ≡ last_end d z (edge_ends d 0 path)

-- the section is neither own nor held already
abbrev pub is_new : List SectionNo → List OverlapSection → SectionNo → Bool
is_new own held z = not (list_any (λ y. y.0 == z.0) own) && not (list_any (λ p. p.section.0 == z.0) held)
