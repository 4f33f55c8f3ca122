use Rattle.cone_spec.proofs.Refusing.{timed_of}
use Rattle.cone_clause.proofs.Agreeing.{none_feasible}
use Rattle.cone_clause.proofs.laws.refuted_designs_are_infeasible.Goals as goal

pub returns : goal.returns
returns c = λ d n k some more admitted cones valid none. none_feasible d n k cones some more (timed_of d admitted) valid none
