use Rattle.alike_clause_spec.proofs.Holding.{none_sorted}
use Rattle.alike_clause_spec.proofs.laws.none_sorted_is_infeasible.Goals as goal

pub returns : goal.returns
returns c = λ turns d n k some within more. none_sorted turns d n k some within more
