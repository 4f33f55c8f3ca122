use Rattle.std.proofs.Common.{◌≡◌, ◌≤◌, ◌+◌, ◌*◌, length}
use Rattle.drawing.specs.Drawing.{areas_in, words_in}
use Rattle.track_drawing.proofs.nodes.put_nodes.Given as goal

abbrev pub invariant-loop-index : goal.invariant-loop-index
invariant-loop-index l = record {
  words : words_in l.picture ≡ words_in l.initial.picture;
  areas : areas_in l.picture ≡ areas_in l.initial.picture;
  size : length l.picture ≤ length l.initial.picture + 5 * l.index;
}
