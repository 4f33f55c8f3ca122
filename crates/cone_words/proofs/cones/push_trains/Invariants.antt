use Rattle.std.proofs.Common.{◌≡◌, ◌++◌, take}
use Rattle.std.specs.List.{flat_map}
use Rattle.rail_outside.specs.Lines.{lines_of}
use Rattle.cone_words.specs.Cones.{train_sentences}
use Rattle.cone_words.proofs.cones.push_trains.Given as goal

abbrev pub invariant-loop-train : goal.invariant-loop-train
invariant-loop-train l = lines_of l.lines.items ≡ lines_of l.initial.lines.items ++ flat_map (train_sentences l.interlocking.design.station l.interlocking.routes l.line l.cone) (take l.train-index l.trains)
