use Rattle.std.proofs.Common.{map}
use Rattle.evidence_words.specs.Failings.{seen}
use Rattle.rail_text.specs.Cursors.{lines_left}
use Rattle.rail_text.specs.Lines.{line_of_piece}
use Rattle.proof_words.specs.Meanings.{piece_failings}
use Rattle.proof_words.specs.Named.{IsNamedPiece}
use Rattle.proof_words.proofs.Pieces.{first_all, rest_all, told_more}
use Rattle.proof_words.proofs.failings.push_pieces.Goals as goal

pub push_piece-requires : goal.push_piece-requires
push_piece-requires c =
    let d = c.args.interlocking.now.design.station in
    first_all (IsNamedPiece d) (lines_left c.pieces.piece-iterator) (line_of_piece c.in-Some.piece) (lines_left c.next.new.self) c.in-Some.ensures.steps c.pieces.invariant.named

pub pieces-preserved : goal.pieces-preserved
pieces-preserved c =
    let d = c.args.interlocking.now.design.station in record {
      told = told_more (piece_failings d) (lines_left c.pieces.piece-iterator) (line_of_piece c.in-Some.piece) (lines_left c.next.new.self) _ (map seen c.pieces.failings.items) (map seen c.push_piece.new.failings.items) c.in-Some.ensures.steps c.pieces.invariant.told c.in_ok-push_piece.ensures;
      named = rest_all (IsNamedPiece d) (lines_left c.pieces.piece-iterator) (line_of_piece c.in-Some.piece) (lines_left c.next.new.self) c.in-Some.ensures.steps c.pieces.invariant.named;
    }
