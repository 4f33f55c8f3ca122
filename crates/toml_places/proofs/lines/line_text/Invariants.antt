use Rattle.std.proofs.Common.{◌≡◌, ◌==◌, []}
use Rattle.std.specs.List.{find}
use Rattle.std.specs.Option.{option_map_or}
use Rattle.rail_text.specs.Cursors.{lines_left}
use Rattle.toml_places.specs.Lines.{line_text}
use Rattle.toml_places.proofs.lines.line_text.Given as goal

-- it is to be found in the lines that are left
abbrev pub invariant-loop-piece : goal.invariant-loop-piece
invariant-loop-piece l = option_map_or (λ piece. piece.bytes) (find (λ piece. piece.line == l.number) (lines_left l.piece-iterator)) [] ≡ line_text l.text l.number
