use Rattle.std.proofs.Common.{◌≡◌, drop}
use Rattle.std.specs.List.{find}
use Rattle.design_table.specs.Texts.{texts}
use Rattle.design_table.specs.Parsed.{sheet_seen}
use Rattle.fault_words.specs.Names.{is_nowhere}
use Rattle.fault_words.proofs.names.unknown_section.Given as goal

-- it is to be found in the rest
abbrev pub invariant-loop-name : goal.invariant-loop-name
invariant-loop-name l = find (is_nowhere (sheet_seen l.sheet)) (texts (drop l.name-index l.names)) ≡ find (is_nowhere (sheet_seen l.sheet)) (texts l.names)
