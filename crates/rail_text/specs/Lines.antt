-- A piece by its bytes.
use Rattle.rail_text.specs.declared.cursor.Piece.{Piece}
use Rattle.rail_text.specs.Pieces.{Line}

abbrev pub line_of_piece : Piece → Line
line_of_piece piece = record { line = piece.line; ended = piece.ended; bytes = piece.bytes.now }
