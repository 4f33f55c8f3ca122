use Rattle.std.proofs.Common.{◌≡◌, ◌+◌, bytes_eq, drop}
use Rattle.std.specs.List.{position_or_len}
use Rattle.design_table.specs.Texts.{texts}
use Rattle.fault_words.proofs.names.number_in.Given as goal

-- none of those so far is it
abbrev pub invariant-loop-index : goal.invariant-loop-index
invariant-loop-index l = position_or_len (bytes_eq l.name) (texts l.names) ≡ l.index + position_or_len (bytes_eq l.name) (texts (drop l.index l.names))
