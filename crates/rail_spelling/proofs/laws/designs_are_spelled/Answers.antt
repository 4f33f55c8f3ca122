use Rattle.rail_spelling.proofs.Unique.{designs_spelled}
use Rattle.rail_spelling.proofs.laws.designs_are_spelled.Goals as goal

pub returns : goal.returns
returns c = designs_spelled
