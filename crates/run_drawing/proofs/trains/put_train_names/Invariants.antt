use Rattle.std.proofs.Common.{◌≡◌, ◌+◌, ◌++◌, take, map, length}
use Rattle.run_drawing.specs.Words.{name_of}
use Rattle.drawing.specs.Drawing.{words_in}
use Rattle.run_drawing.proofs.trains.put_train_names.Given as goal

abbrev pub invariant-loop-index : goal.invariant-loop-index
invariant-loop-index l = record {
  words : words_in l.picture ≡ words_in l.initial.picture ++ map name_of (take l.index l.trains);
  size : length l.picture ≡ length l.initial.picture + l.index;
}
