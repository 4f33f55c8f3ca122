use Rattle.rail_spelling.proofs.Asked.{check_asked}
use Rattle.rail_spelling.proofs.laws.check_lines_ask.Goals as goal

pub returns : goal.returns
returns c = check_asked
