use Rattle.std.proofs.Common.{◌≡◌, ◌≤◌, ◌+◌, drop, filter, length}
use Rattle.rail_text.specs.Pieces.{is_lf}
use Rattle.toml_places.proofs.lines.count_lines.Given as goal

-- those counted, and those in the rest
abbrev pub invariant-loop-byte : goal.invariant-loop-byte
invariant-loop-byte l = (l.count ≤ l.byte-index) × (l.count + length (filter is_lf (drop l.byte-index l.text)) ≡ length (filter is_lf l.text))
