use Rattle.std.proofs.Common.{◌≡◌, ◌+◌, ◌*◌, ◌≤◌, length}
use Rattle.drawing.specs.Drawing.{words_in}
use Rattle.run_drawing.proofs.axes.put_levels.Given as goal

abbrev pub invariant-loop-index : goal.invariant-loop-index
invariant-loop-index l = record {
  words : words_in l.picture ≡ words_in l.initial.picture;
  size : length l.picture ≤ length l.initial.picture + 2 * l.index;
}
