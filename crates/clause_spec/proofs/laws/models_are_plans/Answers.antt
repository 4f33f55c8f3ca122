use Rattle.clause_spec.proofs.Theorems.{models_are_plans}
use Rattle.clause_spec.proofs.laws.models_are_plans.Goals as goal

pub returns : goal.returns
returns c = λ d routes n some values. models_are_plans d routes n values some
