use Rattle.base_spec.proofs.Models.{has_model_by}
use Rattle.base_spec.proofs.laws.feasible_plans_have_models_by.Goals as goal

pub returns : goal.returns
returns c = λ kind d n k some within admitted plan f. has_model_by d n k some within kind admitted plan f
