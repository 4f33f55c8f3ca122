use Rattle.std.proofs.Common.{◌≡◌, ◌++◌, take}
use Rattle.design_table.specs.Texts.{texts}
use Rattle.fault_words.specs.Words.{each_name}
use Rattle.fault_words.proofs.words.put_each_name.Given as goal

abbrev pub invariant-loop-name : goal.invariant-loop-name
invariant-loop-name l = l.text.items ≡ l.initial.text.items ++ each_name (texts (take l.name-index l.names))
