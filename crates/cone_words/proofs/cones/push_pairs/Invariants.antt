use Rattle.std.proofs.Common.{◌≡◌, ◌++◌, take, map}
use Rattle.rail_outside.specs.Lines.{lines_of}
use Rattle.cone_words.specs.Phrases.{sentence}
use Rattle.cone_words.specs.Cones.{pair_text}
use Rattle.cone_words.proofs.cones.push_pairs.Given as goal

abbrev pub invariant-loop-first : goal.invariant-loop-first
invariant-loop-first l = lines_of l.lines.items ≡ lines_of l.initial.lines.items ++ map (λ p. sentence l.line (pair_text l.interlocking.design.station l.interlocking.routes p)) (take l.first-index l.pairs)
