use Rattle.rail_spelling.proofs.Unique.{spelled_plans_one}
use Rattle.rail_spelling.proofs.laws.spelled_plans_are_one.Goals as goal

pub returns : goal.returns
returns c = spelled_plans_one
