-- What a cursor gives.
use Rattle.std.specs.Prelude.{◌≡◌, List, [], ◌∷◌, Option, MatchOption}
use Rattle.rail_text.specs.declared.cursor.Cursor.{Cursor}
use Rattle.rail_text.specs.declared.cursor.Piece.{Piece}
use Rattle.rail_text.specs.Lines.{line_of_piece}
use Rattle.rail_text.specs.Pieces.{Line, pieces_from}

-- the lines that are left
abbrev pub lines_left : Cursor → List Line
lines_left cursor = pieces_from cursor.line cursor.rest.now

-- the first line that is left is given and taken off, or none where none is left
abbrev pub GivesNext : Cursor → Option Piece → Cursor → Type 0
GivesNext old given new =
    MatchOption given ((lines_left old ≡ []) × (lines_left new ≡ [])) (λ piece.
    lines_left old ≡ line_of_piece piece ∷ lines_left new)
