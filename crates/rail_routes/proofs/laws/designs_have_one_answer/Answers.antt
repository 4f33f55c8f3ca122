use Rattle.rail_routes.proofs.Tables.{some_answer, not_both, one_reason}
use Rattle.rail_routes.proofs.laws.designs_have_one_answer.Goals as goal

pub returns-clause-listed_or_refused : goal.returns-clause-listed_or_refused
returns-clause-listed_or_refused c = some_answer

pub returns-clause-not_both : goal.returns-clause-not_both
returns-clause-not_both c = not_both

pub returns-clause-one_reason : goal.returns-clause-one_reason
returns-clause-one_reason c = λ d x y a b. one_reason d x y a.0 b.0 a.1 b.1
