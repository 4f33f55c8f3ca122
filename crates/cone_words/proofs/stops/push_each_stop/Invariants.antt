use Rattle.std.proofs.Common.{◌≡◌, ◌++◌, length, take}
use Rattle.std.specs.List.{flat_map, zip}
use Rattle.rail_outside.specs.Lines.{lines_of}
use Rattle.cone_words.specs.Stops.{stop_sentences_of}
use Rattle.cone_words.proofs.stops.push_each_stop.Given as goal

abbrev pub invariant-loop-nodes : goal.invariant-loop-nodes
invariant-loop-nodes l = lines_of l.lines.items ≡ lines_of l.initial.lines.items ++ flat_map (stop_sentences_of l.interlocking.design.station l.interlocking.routes l.line l.train) (take (length l.yielded) (zip l.visits l.dwell_ms))
