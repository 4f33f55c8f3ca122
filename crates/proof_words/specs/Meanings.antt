-- The sentences about the lines of a proof file.
use Rattle.std.specs.Prelude.{ℕ, List, [], ◌∷◌, ◌++◌, Option, Some, None}
use Rattle.std.specs.List.{flat_map}
use Rattle.evidence_words.specs.Failings.{FailingSeen, failing_of}
use Rattle.evidence_words.specs.Sentences.{evidence_sentences}
use Rattle.proof_log.specs.declared.line.Line.{Line}
use Rattle.proof_log.specs.declared.line.Line.TheVariants.{Derive, Refute, Forget}
use Rattle.proof_log.specs.Lines.{line_in_bytes}
use Rattle.rail_base.specs.declared.station.Station.{Station}
use Rattle.rail_base.specs.Numbering.{after_first}
use Rattle.rail_spec.specs.Track.{routes_of}
use Rattle.rail_text.specs.Pieces.{pieces}
use Rattle.rail_text.specs.Pieces.{Line as Piece}
use Rattle.proof_words.specs.Summaries.{summary_lines}

module _ (d : Station) where
  -- of the line of this number: those about its cone or bound, and none where it is another line
  abbrev pub line_sentences : ℕ → Option Line → List (List ℕ)
  line_sentences n None = []
  line_sentences n (Some (Derive clause hints)) = []
  line_sentences n (Some (Refute e)) = evidence_sentences d (routes_of d) n e
  line_sentences n (Some (Forget clauses)) = []

  -- of a piece of the file
  abbrev pub piece_sentences : Piece → List (List ℕ)
  piece_sentences piece = line_sentences piece.line (line_in_bytes piece.bytes)

  -- of all lines after the head, in order
  abbrev pub lines_sentences : List ℕ → List (List ℕ)
  lines_sentences bytes = flat_map piece_sentences (after_first (pieces bytes))

  -- ---- what fails

  -- by the line: by its cone or bound
  abbrev pub line_failings : Option Line → List FailingSeen
  line_failings None = []
  line_failings (Some (Derive clause hints)) = []
  line_failings (Some (Refute e)) = failing_of d (routes_of d) e ∷ []
  line_failings (Some (Forget clauses)) = []

  -- by a piece of the file
  abbrev pub piece_failings : Piece → List FailingSeen
  piece_failings piece = line_failings (line_in_bytes piece.bytes)

  -- by all lines after the head, in order
  abbrev pub file_failings : List ℕ → List FailingSeen
  file_failings bytes = flat_map piece_failings (after_first (pieces bytes))

  -- ---- the sentences about the file: those about its lines, and what they have in common
  abbrev pub file_sentences : List ℕ → List (List ℕ)
  file_sentences bytes = lines_sentences bytes ++ summary_lines d (file_failings bytes)
