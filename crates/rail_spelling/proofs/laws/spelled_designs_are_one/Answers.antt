use Rattle.rail_spelling.proofs.Unique.{spelled_one}
use Rattle.rail_spelling.proofs.laws.spelled_designs_are_one.Goals as goal

pub returns : goal.returns
returns c = spelled_one
