use Rattle.bound_clause.proofs.Holding.{bound_holds}
use Rattle.bound_clause.proofs.laws.bounds_hold_in_models_of_feasible_plans.Goals as goal

pub returns : goal.returns
returns c = λ d adm n plan f some b valid. bound_holds d adm n b plan some valid f
