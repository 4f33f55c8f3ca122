use Rattle.normal_clause_spec.proofs.Holding.{feasible_normal_plans_hold}
use Rattle.normal_clause_spec.proofs.laws.feasible_normal_plans_are_models.Goals as goal

pub returns : goal.returns
returns c = λ d n some plan. feasible_normal_plans_hold d n plan some
