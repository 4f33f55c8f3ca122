use Rattle.std.proofs.Common.{◌≡◌, ◌+◌, ◌++◌, length, map, take}
use Rattle.std.specs.List.{enumerate_from}
use Rattle.drawing.specs.Drawing.{words_in}
use Rattle.run_drawing.specs.Requirements.{within_text}
use Rattle.run_drawing.proofs.requirements.put_withins.Given as goal

abbrev pub invariant-loop-index : goal.invariant-loop-index
invariant-loop-index l = record {
  words : words_in l.picture ≡ words_in l.initial.picture ++ map (within_text l.design.station l.history l.last) (take l.index (enumerate_from 1 l.withins));
  size : length l.picture ≡ length l.initial.picture + l.index;
}
