use Rattle.normal_clause_spec.proofs.Shown.{has_normal_model}
use Rattle.normal_clause_spec.proofs.laws.feasible_plans_have_normal_models.Goals as goal

pub returns : goal.returns
returns c = λ d n k some within admitted plan f. has_normal_model d n k some within admitted plan f
