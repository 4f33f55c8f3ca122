use Rattle.std.proofs.Common.{◌≡◌, ◌+◌, ◌*◌, ◌++◌, take, map, length}
use Rattle.drawing.specs.Drawing.{areas_in, words_in}
use Rattle.track_drawing.specs.Edges.{edge_shape, lines_in}
use Rattle.track_drawing.proofs.edges.put_edges.Given as goal

abbrev pub invariant-loop-index : goal.invariant-loop-index
invariant-loop-index l = record {
  lines : lines_in l.picture ≡ lines_in l.initial.picture ++ map (edge_shape l.sections) (take l.index l.lines);
  words : words_in l.picture ≡ words_in l.initial.picture;
  areas : areas_in l.picture ≡ areas_in l.initial.picture;
  size : length l.picture ≡ length l.initial.picture + 3 * l.index;
}
