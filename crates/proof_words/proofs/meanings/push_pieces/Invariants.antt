use Rattle.std.proofs.Common.{◌≡◌, ◌++◌, All, flat_map}
use Rattle.rail_outside.specs.Lines.{lines_of}
use Rattle.rail_text.specs.Cursors.{lines_left}
use Rattle.proof_words.specs.Meanings.{piece_sentences}
use Rattle.proof_words.specs.Named.{IsNamedPiece}
use Rattle.proof_words.proofs.meanings.push_pieces.Given as goal

abbrev pub invariant-pieces : goal.invariant-pieces
invariant-pieces l = record {
  told : lines_of l.lines.items ++ flat_map (piece_sentences l.interlocking.design.station) (lines_left l.piece-iterator) ≡ lines_of l.initial.lines.items ++ flat_map (piece_sentences l.interlocking.design.station) (lines_left l.fn.pieces);
  named : All (IsNamedPiece l.interlocking.design.station) (lines_left l.piece-iterator);
}
