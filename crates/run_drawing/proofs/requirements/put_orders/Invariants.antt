use Rattle.std.proofs.Common.{◌≡◌, ◌+◌, ◌++◌, length, map, take}
use Rattle.std.specs.List.{enumerate_from}
use Rattle.drawing.specs.Drawing.{words_in}
use Rattle.run_drawing.specs.Requirements.{order_text}
use Rattle.run_drawing.proofs.requirements.put_orders.Given as goal

abbrev pub invariant-loop-index : goal.invariant-loop-index
invariant-loop-index l = record {
  words : words_in l.picture ≡ words_in l.initial.picture ++ map (order_text l.design.station l.history) (take l.index (enumerate_from 1 l.orders));
  size : length l.picture ≡ length l.initial.picture + l.index;
}
