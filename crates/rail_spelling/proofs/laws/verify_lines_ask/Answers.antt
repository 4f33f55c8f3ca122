use Rattle.rail_spelling.proofs.Asked.{verify_asked}
use Rattle.rail_spelling.proofs.laws.verify_lines_ask.Goals as goal

pub returns : goal.returns
returns c = verify_asked
