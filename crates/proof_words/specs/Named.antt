-- Files whose cones and bounds name what the design has.
use Rattle.std.specs.Prelude.{◌≡◌, Bool, true, Some}
use Rattle.evidence_words.specs.Sentences.{names_what_is_there}
use Rattle.proof_log.specs.declared.line.Line.{Line}
use Rattle.proof_log.specs.declared.line.Line.TheVariants.{Derive, Refute, Forget}
use Rattle.proof_log.specs.Lines.{line_in_bytes}
use Rattle.rail_base.specs.declared.station.Station.{Station}
use Rattle.rail_spec.specs.Track.{routes_of}
use Rattle.rail_text.specs.Pieces.{Line as Piece}

module _ (d : Station) where
  -- a cone or a bound of the line names what the design has
  abbrev pub names_line : Line → Bool
  names_line (Derive clause hints) = true
  names_line (Refute e) = names_what_is_there d (routes_of d) e
  names_line (Forget clauses) = true

  -- a line that the piece spells does
  abbrev pub IsNamedPiece : Piece → Type 0
  IsNamedPiece piece = (line : Line) → line_in_bytes piece.bytes ≡ Some line → names_line line ≡ true
