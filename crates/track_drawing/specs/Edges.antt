-- The lines of edges in a picture of a track.
use Rattle.std.specs.Prelude.{◌≡◌, ℕ, Bool, true, false, List, [], ◌++◌, map, filter}
use Rattle.drawing.specs.declared.shape.Point.{Point}
use Rattle.drawing.specs.declared.shape.Shape.{Shape}
use Rattle.drawing.specs.declared.shape.Shape.TheVariants.{Line, Bar, Frame, Dot, Words, Label, Dotted, Ring, Titled, TitledEnd, Note}
use Rattle.drawing.specs.Names.{color_of_name}
use Rattle.rail_base.specs.declared.station.Station.{Station}
use Rattle.rail_base.specs.Numbering.{entry}
use Rattle.track_layout.specs.declared.place.EdgePlace.{EdgePlace}
use Rattle.track_layout.specs.Lines.{FlatsAreApart, JoinTheirNodes, line_of}

-- the shape of an edge: its line, in the colour of its section's name
abbrev pub edge_shape : List (List ℕ) → EdgePlace → Shape
edge_shape sections line = Line (line_of line) (color_of_name (entry [] sections line.section.0)) 3

-- the lines of a picture, in order
abbrev pub is_line : Shape → Bool
is_line (Line points color width) = true
is_line (Bar corner width height color) = false
is_line (Frame corner width height color) = false
is_line (Dot center radius color) = false
is_line (Words place anchor color text) = false
is_line (Label place style color text) = false
is_line (Dotted points color width) = false
is_line (Ring center radius color) = false
is_line (Titled title) = false
is_line TitledEnd = false
is_line (Note place anchor color text) = false

abbrev pub lines_in : List Shape → List Shape
lines_in picture = filter is_line picture

-- a picture begins with the edges of a station: each line joins its two nodes and has the colour of its section's name,
-- and no two flat parts of them lie over one another
pub record ShowsEdges (d : Station) (picture : List Shape) : Type 0 where
  pub points : List Point
  pub lines : List EdgePlace
  pub joined : JoinTheirNodes points d.edges lines
  pub apart : FlatsAreApart lines
  pub begin : List Shape
  pub rest : List Shape
  pub all : picture ≡ begin ++ rest
  pub drawn : lines_in begin ≡ map (edge_shape d.sections) lines
