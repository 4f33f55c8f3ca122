use Rattle.std.proofs.Common.{◌≡◌, ◌+◌, ◌≤◌, ◌++◌, length, take}
use Rattle.std.specs.List.{filter_map, zip}
use Rattle.drawing.specs.Drawing.{words_in}
use Rattle.run_drawing.specs.Words.{stand_line_of}
use Rattle.run_drawing.proofs.stands.put_stands.Given as goal

abbrev pub invariant-loop-visit : goal.invariant-loop-visit
invariant-loop-visit l = record {
  words : words_in l.picture ≡ words_in l.initial.picture ++ filter_map (stand_line_of l.design.station.tick_ms l.name) (take (length l.yielded) (zip l.train.visits l.train.dwells));
  size : length l.picture ≤ length l.initial.picture + length l.yielded;
}
