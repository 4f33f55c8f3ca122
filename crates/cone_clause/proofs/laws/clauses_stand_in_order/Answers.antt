use Rattle.cone_clause.proofs.Ordered.{clause_rises}
use Rattle.cone_clause.proofs.laws.clauses_stand_in_order.Goals as goal

pub returns : goal.returns
returns c = λ d routes n some k fits. clause_rises d routes n some k fits
