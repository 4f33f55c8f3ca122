use Rattle.bound_spec.proofs.Certified.{true_of_feasible}
use Rattle.bound_spec.proofs.laws.clauses_hold_of_feasible_plans.Goals as goal

pub returns : goal.returns
returns c = λ d adm n plan f b valid. true_of_feasible d adm n b plan valid f
