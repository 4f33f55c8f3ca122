-- What is said of the lines of a proof file, by the interlocking.
use Rattle.std.specs.Prelude.{ℕ, List, Some, flat_map}
use Rattle.interlocking.specs.declared.railway.Interlocking.{Interlocking}
use Rattle.proof_log.specs.declared.line.Line.{Line}
use Rattle.rail_text.specs.declared.cursor.Piece.{Piece}
use Rattle.rail_text.specs.declared.cursor.Cursor.{Cursor}
use Rattle.rail_text.specs.Cursors.{lines_left}
use Rattle.rail_text.specs.Lines.{line_of_piece}
use Rattle.std.specs.Prelude.{◌≡◌, ◌++◌, map, Vec}
use Rattle.std.specs.Borrow.{Bor}
use Rattle.std.specs.declared.alloc.Global.{Global}
use Rattle.evidence_words.specs.declared.failing.Failing.{Failing}
use Rattle.evidence_words.specs.Failings.{FailingSeen, seen}
use Rattle.proof_words.specs.Meanings.{line_failings, line_sentences, piece_failings, piece_sentences}

-- what failings that are lent say
abbrev pub lent_seen : List (Bor Failing) → List FailingSeen
lent_seen = map (λ f. seen f.now)

-- these failings are added
abbrev pub AddsFailings : Vec Failing Global → Vec Failing Global → List FailingSeen → Type 0
AddsFailings before after more = map seen after.items ≡ map seen before.items ++ more

module _ (i : Interlocking) where
  -- of a line of this number
  abbrev pub said_of_line : ℕ → Line → List (List ℕ)
  said_of_line n line = line_sentences i.design.station n (Some line)

  -- of a piece of the file
  abbrev pub said_of_piece : Piece → List (List ℕ)
  said_of_piece piece = piece_sentences i.design.station (line_of_piece piece)

  -- of the pieces that are left
  abbrev pub said_of_pieces : Cursor → List (List ℕ)
  said_of_pieces cursor = flat_map (piece_sentences i.design.station) (lines_left cursor)

  -- what fails by a line
  abbrev pub failing_by_line : Line → List FailingSeen
  failing_by_line line = line_failings i.design.station (Some line)

  -- by a piece of the file
  abbrev pub failing_by_piece : Piece → List FailingSeen
  failing_by_piece piece = piece_failings i.design.station (line_of_piece piece)

  -- by the pieces that are left
  abbrev pub failing_by_pieces : Cursor → List FailingSeen
  failing_by_pieces cursor = flat_map (piece_failings i.design.station) (lines_left cursor)
