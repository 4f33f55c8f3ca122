use Rattle.live_clause_spec.proofs.Shown.{have_live_models}
use Rattle.live_clause_spec.proofs.laws.feasible_plans_have_live_models.Goals as goal

pub returns : goal.returns
returns c = have_live_models
