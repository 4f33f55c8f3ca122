use Rattle.bound_clause.proofs.Holding.{clause_rises}
use Rattle.bound_clause.proofs.laws.clauses_stand_in_order.Goals as goal

pub returns : goal.returns
returns c = λ d routes n some b fits. clause_rises d routes n b some fits
