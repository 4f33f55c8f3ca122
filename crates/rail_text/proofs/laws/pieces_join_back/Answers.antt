use Rattle.rail_text.proofs.Splitting.{text_of-pieces}
use Rattle.rail_text.proofs.laws.pieces_join_back.Goals as goal

pub returns : goal.returns
returns c = text_of-pieces
