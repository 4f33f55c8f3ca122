use Rattle.normal_clause_spec.proofs.Shown.{none_normal}
use Rattle.normal_clause_spec.proofs.laws.none_normal_is_infeasible.Goals as goal

pub returns : goal.returns
returns c = λ d n k some within admitted more over sound none. none_normal d n k some within admitted more over sound none
