use Rattle.greatest_time.proofs.InTime.{more_is_feasible, less_is_infeasible}
use Rattle.greatest_time.proofs.laws.more_time_is_feasible.Goals as goal

pub returns-clause-more : goal.returns-clause-more
returns-clause-more c = more_is_feasible

pub returns-clause-less : goal.returns-clause-less
returns-clause-less c = less_is_infeasible
