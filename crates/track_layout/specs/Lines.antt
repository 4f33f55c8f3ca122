-- The lines of edges: what they join, and that no two flat parts of them share a height at one place.
use Rattle.std.specs.Prelude.{◌≡◌, ℕ, Bool, true, not, ◌||◌, ◌==◌, List, [], ◌∷◌, ◌++◌, map, Option, Some, None}
use Rattle.std.specs.Prelude.{nat_le, min, max, if◌then◌else◌}
use Rattle.std.specs.List.{flat_map}
use Rattle.drawing.specs.declared.shape.Point.{Point}
use Rattle.rail_base.specs.declared.station.NodeNo.{NodeNo}
use Rattle.rail_base.specs.declared.station.Edge.{Edge}
use Rattle.rail_base.specs.Members.{all_pairs}
use Rattle.rail_base.specs.Numbering.{entry}
use Rattle.track_layout.specs.declared.place.EdgePlace.{EdgePlace}
use Rattle.track_layout.specs.declared.place.Flat.{Flat}

-- where a node is drawn
abbrev pub point_of : List Point → NodeNo → Point
point_of points node = entry (record { x = 0; y = 0 }) points node.0

-- the points of a line
abbrev pub line_of : EdgePlace → List Point
line_of line = line.begin ∷ line.middle ++ line.end ∷ []

-- the line of each edge begins at its one node and ends at the other, and has its section
abbrev pub JoinTheirNodes : List Point → List Edge → List EdgePlace → Type 0
JoinTheirNodes points edges lines =
    (map (λ (line : EdgePlace). line.begin) lines ≡ map (λ (edge : Edge). point_of points edge.from.node) edges)
    × (map (λ (line : EdgePlace). line.end) lines ≡ map (λ (edge : Edge). point_of points edge.to.node) edges)
    × (map (λ (line : EdgePlace). line.section) lines ≡ map (λ (edge : Edge). edge.section) edges)

-- ---- flat parts

-- the flat part from one point to the next, if they are at one height
abbrev pub flat_between : Option Point → Point → List Flat
flat_between None q = []
flat_between (Some p) q =
    if p.y == q.y then record { height = q.y; from = min p.x q.x; to = max p.x q.x } ∷ [] else []

-- the flat parts of a line that goes on from a point
abbrev pub flats_after : Option Point → List Point → List Flat
flats_after before [] = []
flats_after before (p ∷ ps) = flat_between before p ++ flats_after (Some p) ps

-- the flat parts of the line of an edge
abbrev pub flats_of : EdgePlace → List Flat
flats_of line = flats_after None (line_of line)

-- they are at two heights, or one ends before the other begins
abbrev pub are_apart : Flat → Flat → Bool
are_apart one other = not (one.height == other.height) || nat_le one.to other.from || nat_le other.to one.from

-- each two flat parts of all lines
abbrev pub FlatsAreApart : List EdgePlace → Type 0
FlatsAreApart lines = all_pairs are_apart (flat_map flats_of lines) ≡ true
