use Rattle.std.proofs.Common.{◌≡◌, ◌+◌, ◌≤◌, ◌++◌, take, length}
use Rattle.std.specs.List.{enumerate_from, flat_map}
use Rattle.run_drawing.specs.Words.{history_size, train_texts}
use Rattle.drawing.specs.Drawing.{words_in}
use Rattle.run_drawing.proofs.picture.put_history.Given as goal

abbrev pub invariant-loop-index : goal.invariant-loop-index
invariant-loop-index l = record {
  words : words_in l.picture ≡ words_in l.initial.picture ++ flat_map (λ train. train_texts l.design.station train.0 train.1) (take l.index (enumerate_from 1 l.history));
  size : length l.picture ≤ length l.initial.picture + history_size (take l.index l.history);
}
