use Rattle.std.proofs.Common.{◌≡◌, ◌≤◌, filter, length, take}
use Rattle.toml_places.specs.Lines.{begins_character, last_line}
use Rattle.toml_places.proofs.lines.count_characters.Given as goal

-- those of the bytes so far
abbrev pub invariant-loop-byte : goal.invariant-loop-byte
invariant-loop-byte l = (l.count ≤ l.byte-index) × (l.count ≡ length (filter begins_character (last_line (take l.byte-index l.text))))
