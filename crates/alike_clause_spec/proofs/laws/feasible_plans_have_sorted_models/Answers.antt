use Rattle.alike_clause_spec.proofs.Holding.{has_model}
use Rattle.alike_clause_spec.proofs.laws.feasible_plans_have_sorted_models.Goals as goal

pub returns : goal.returns
returns c = has_model
