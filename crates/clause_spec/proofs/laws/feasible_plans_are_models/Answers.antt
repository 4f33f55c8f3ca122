use Rattle.clause_spec.proofs.Theorems.{feasible_plans_are_models}
use Rattle.clause_spec.proofs.laws.feasible_plans_are_models.Goals as goal

pub returns : goal.returns
returns c = λ d n some plan. feasible_plans_are_models d n plan some
