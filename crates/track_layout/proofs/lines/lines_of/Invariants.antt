use Rattle.std.proofs.Common.{◌≡◌, map, take, true}
use Rattle.std.specs.List.{flat_map}
use Rattle.rail_base.specs.declared.station.Edge.{Edge}
use Rattle.rail_base.specs.Members.{all_pairs}
use Rattle.track_layout.specs.declared.place.EdgePlace.{EdgePlace}
use Rattle.track_layout.specs.Lines.{are_apart, flats_of, point_of}
use Rattle.track_layout.proofs.lines.lines_of.Given as goal

abbrev pub invariant-loop-index : goal.invariant-loop-index
invariant-loop-index l = record {
  taken : l.taken.items ≡ flat_map flats_of l.lines;
  apart : all_pairs are_apart l.taken.items ≡ true;
  begins : map (λ (line : EdgePlace). line.begin) l.lines ≡ map (λ (edge : Edge). point_of l.points edge.from.node) (take l.index l.edges);
  ends : map (λ (line : EdgePlace). line.end) l.lines ≡ map (λ (edge : Edge). point_of l.points edge.to.node) (take l.index l.edges);
  sections : map (λ (line : EdgePlace). line.section) l.lines ≡ map (λ (edge : Edge). edge.section) (take l.index l.edges);
}
