use Rattle.rail_alike.proofs.Exchanging.{like_itself, like_back, like_on}
use Rattle.rail_alike.proofs.laws.likeness_goes_on.Goals as goal

pub returns-clause-itself : goal.returns-clause-itself
returns-clause-itself c = like_itself

pub returns-clause-back : goal.returns-clause-back
returns-clause-back c = like_back

pub returns-clause-on : goal.returns-clause-on
returns-clause-on c = like_on
