use Rattle.normal_clause_spec.proofs.Holding.{normal_plans_hold}
use Rattle.normal_clause_spec.proofs.laws.normal_plans_are_models.Goals as goal

pub returns : goal.returns
returns c = λ d routes n some plan. normal_plans_hold d routes n plan some
