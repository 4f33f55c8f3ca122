use Rattle.bound_clause.proofs.Holding.{refuted}
use Rattle.bound_clause.proofs.laws.refuted_designs_are_infeasible.Goals as goal

pub returns : goal.returns
returns c = λ turns d n k some more adm cones bounds. refuted turns d adm n k cones bounds some more
