use Rattle.rail_spelling.proofs.Unique.{plans_spelled}
use Rattle.rail_spelling.proofs.laws.plans_are_spelled.Goals as goal

pub returns : goal.returns
returns c = plans_spelled
