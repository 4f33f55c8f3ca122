use Rattle.rail_outside.specs.Lines.{lines_of}
use Rattle.way_words.proofs.Gathering.{SoFar}
use Rattle.way_words.proofs.ways.push_no_ways.Given as goal

-- with those of the trains before
abbrev pub invariant-loop-number : goal.invariant-loop-number
invariant-loop-number l = SoFar l.ways.interlocking.now.design.station l.ways.interlocking.now.routes (lines_of l.initial.lines.items) l.number (lines_of l.lines.items)
