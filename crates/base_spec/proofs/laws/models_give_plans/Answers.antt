use Rattle.base_spec.proofs.Models.{gives_plan}
use Rattle.base_spec.proofs.laws.models_give_plans.Goals as goal

pub returns : goal.returns
returns c = gives_plan
