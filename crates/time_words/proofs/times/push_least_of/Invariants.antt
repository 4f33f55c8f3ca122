use Rattle.std.proofs.Common.{drop}
use Rattle.rail_outside.specs.Lines.{lines_of}
use Rattle.time_words.proofs.Lining.{GoesOn}
use Rattle.time_words.proofs.times.push_least_of.Given as goal

abbrev pub invariant-loop-number : goal.invariant-loop-number
invariant-loop-number l =
    let i = l.onward.interlocking.now in
    GoesOn i.design.station i.routes l.numbers (lines_of l.initial.lines.items) (lines_of l.lines.items) (drop l.number-index l.numbers)
