use Rattle.clause_spec.proofs.Theorems.{plans_are_models}
use Rattle.clause_spec.proofs.laws.plans_are_models.Goals as goal

pub returns : goal.returns
returns c = λ d routes n some plan. plans_are_models d routes n plan some
