use Rattle.std.proofs.Common.{◌≡◌, drop, not}
use Rattle.std.specs.List.{find}
use Rattle.design_table.specs.Texts.{texts}
use Rattle.design_table.specs.Parsed.{sheet_seen}
use Rattle.fault_words.specs.Tracks.{is_boundary}
use Rattle.fault_words.proofs.tracks.inner_node.Given as goal

-- it is to be found in the rest
abbrev pub invariant-loop-name : goal.invariant-loop-name
invariant-loop-name l = find (λ name. not (is_boundary (sheet_seen l.sheet) name)) (texts (drop l.name-index l.names)) ≡ find (λ name. not (is_boundary (sheet_seen l.sheet) name)) (texts l.names)
