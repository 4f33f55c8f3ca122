use Rattle.std.proofs.Common.{◌≡◌, ◌++◌, take}
use Rattle.rail_words.specs.Words.{texts_of}
use Rattle.design_cli.proofs.wanted.push_words.Given as goal

abbrev pub invariant-loop-word : goal.invariant-loop-word
invariant-loop-word l = texts_of l.more.items ≡ texts_of l.initial.more.items ++ texts_of (take l.word-index l.words)
