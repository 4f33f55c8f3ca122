use Rattle.std.proofs.Common.{◌≡◌, ◌+◌, ◌*◌, ◌≤◌, length}
use Rattle.drawing.specs.Drawing.{words_in}
use Rattle.run_drawing.proofs.bars.put_bars.Given as goal

abbrev pub invariant-loop-route : goal.invariant-loop-route
invariant-loop-route l = record {
  words : words_in l.picture ≡ words_in l.initial.picture;
  size : length l.picture ≤ length l.initial.picture + 2 * l.route-index;
}
