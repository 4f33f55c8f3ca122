use Rattle.rail_spelling.proofs.Asked.{tightest_asked}
use Rattle.rail_spelling.proofs.laws.tightest_lines_ask.Goals as goal

pub returns : goal.returns
returns c = tightest_asked
