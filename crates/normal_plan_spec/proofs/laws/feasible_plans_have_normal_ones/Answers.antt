use Rattle.normal_plan_spec.proofs.Sooner.{has_normal_plan}
use Rattle.normal_plan_spec.proofs.laws.feasible_plans_have_normal_ones.Goals as goal

pub returns : goal.returns
returns c = has_normal_plan
