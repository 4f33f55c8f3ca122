use Rattle.greatest_time.proofs.InTime.{makes_both, takes_alike, feasible_from}
use Rattle.greatest_time.proofs.laws.plans_are_feasible_from_their_time_on.Goals as goal

pub returns-clause-makes : goal.returns-clause-makes
returns-clause-makes c = makes_both

pub returns-clause-alike : goal.returns-clause-alike
returns-clause-alike c = takes_alike

pub returns-clause-exactly : goal.returns-clause-exactly
returns-clause-exactly c = feasible_from
