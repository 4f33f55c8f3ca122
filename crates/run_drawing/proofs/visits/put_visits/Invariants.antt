use Rattle.std.proofs.Common.{◌≡◌, ◌+◌, ◌*◌, ◌≤◌, ◌++◌, take, length}
use Rattle.std.specs.List.{enumerate_from, filter_map}
use Rattle.run_drawing.specs.Words.{visit_line_of}
use Rattle.drawing.specs.Drawing.{words_in}
use Rattle.run_drawing.proofs.visits.put_visits.Given as goal

abbrev pub invariant-loop-index : goal.invariant-loop-index
invariant-loop-index l = record {
  words : words_in l.picture ≡ words_in l.initial.picture ++ filter_map (visit_line_of l.name) (take l.index (enumerate_from 1 l.visits));
  size : length l.picture ≤ length l.initial.picture + 2 * l.index;
}
