use Rattle.rail_text.proofs.Splitting.{pieces-at, pieces-last}
use Rattle.rail_text.proofs.cursor.first_piece.Goals as goal

pub returns-in-Some-clause-pieces : goal.returns-in-Some-clause-pieces
returns-in-Some-clause-pieces c = pieces-at c.args.line c.args.text.now c.in-Some.end c.in-Some.ensures

pub returns-in-None-clause-pieces : goal.returns-in-None-clause-pieces
returns-in-None-clause-pieces c = pieces-last c.args.line c.args.text.now c.in-None.ensures c.requires
