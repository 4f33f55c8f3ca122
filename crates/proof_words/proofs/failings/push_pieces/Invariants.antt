use Rattle.std.proofs.Common.{◌≡◌, ◌++◌, All, flat_map, map}
use Rattle.evidence_words.specs.Failings.{seen}
use Rattle.rail_text.specs.Cursors.{lines_left}
use Rattle.proof_words.specs.Meanings.{piece_failings}
use Rattle.proof_words.specs.Named.{IsNamedPiece}
use Rattle.proof_words.proofs.failings.push_pieces.Given as goal

abbrev pub invariant-pieces : goal.invariant-pieces
invariant-pieces l = record {
  told : map seen l.failings.items ++ flat_map (piece_failings l.interlocking.design.station) (lines_left l.piece-iterator) ≡ map seen l.initial.failings.items ++ flat_map (piece_failings l.interlocking.design.station) (lines_left l.fn.pieces);
  named : All (IsNamedPiece l.interlocking.design.station) (lines_left l.piece-iterator);
}
