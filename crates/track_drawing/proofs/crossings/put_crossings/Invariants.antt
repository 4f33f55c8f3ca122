use Rattle.std.proofs.Common.{◌≡◌, ◌≤◌, ◌+◌, ◌*◌, ◌++◌, take, map, length}
use Rattle.drawing.specs.Drawing.{LabelsAreApart, areas_in, words_in}
use Rattle.track_drawing.proofs.crossings.put_crossings.Given as goal

abbrev pub invariant-loop-index : goal.invariant-loop-index
invariant-loop-index l = record {
  words : words_in l.picture ≡ words_in l.initial.picture;
  areas : areas_in l.picture ≡ areas_in l.initial.picture;
  size : length l.picture ≤ length l.initial.picture + 3 * l.index;
}
