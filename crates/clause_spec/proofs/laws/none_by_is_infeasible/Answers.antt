use Rattle.clause_spec.proofs.Shown.{none_by_is_infeasible}
use Rattle.clause_spec.proofs.laws.none_by_is_infeasible.Goals as goal

pub returns : goal.returns
returns c = none_by_is_infeasible
