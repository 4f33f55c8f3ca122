use Rattle.std.proofs.Common.{◌≡◌, ◌++◌, length, take}
use Rattle.std.specs.List.{enumerate_from, filter_map, zip}
use Rattle.rail_outside.specs.Lines.{lines_of}
use Rattle.outcome_words.specs.Stands.{stand_line}
use Rattle.outcome_words.proofs.stands.push_stands.Given as goal

abbrev pub invariant-loop-index : goal.invariant-loop-index
invariant-loop-index l = lines_of l.lines.items ≡ lines_of l.initial.lines.items ++ filter_map (stand_line l.design.station l.last l.train) (take (length l.yielded) (enumerate_from 1 (zip l.history.visits l.history.dwells)))
