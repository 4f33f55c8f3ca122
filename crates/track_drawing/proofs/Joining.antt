-- Pictures of which one lies over the other.
use Rattle.std.proofs.Common.{◌≡◌, List, ◌++◌, map, length, ap, sym, ◌∙◌}
use Rattle.std.proofs.lemmas.List.Elements.{filter_map-append}
use Rattle.rail_base.proofs.Lists.{length-map}
use Rattle.rail_base.specs.declared.station.Edge.{Edge}
use Rattle.drawing.specs.declared.shape.Point.{Point}
use Rattle.drawing.specs.declared.shape.Shape.{Shape}
use Rattle.drawing.specs.Drawing.{areas_in, shape_area, shape_words, words_in}
use Rattle.track_layout.specs.declared.place.EdgePlace.{EdgePlace}
use Rattle.track_layout.specs.Lines.{JoinTheirNodes, point_of}

pub words_joined : (below above : List Shape) → words_in (below ++ above) ≡ words_in below ++ words_in above
words_joined below above = filter_map-append shape_words below above

pub areas_joined : (below above : List Shape) → areas_in (below ++ above) ≡ areas_in below ++ areas_in above
areas_joined below above = filter_map-append shape_area below above

-- there are as many lines as edges
pub as_many : (points : List Point) (edges : List Edge) (lines : List EdgePlace) → JoinTheirNodes points edges lines → length lines ≡ length edges
as_many points edges lines h = sym (length-map (λ (line : EdgePlace). line.begin) lines) ∙ ap length h.0 ∙ length-map (λ (edge : Edge). point_of points edge.from.node) edges
