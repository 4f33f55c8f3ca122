use Rattle.normal_plan_spec.proofs.Running.{good_is_feasible}
use Rattle.normal_plan_spec.proofs.laws.plans_as_good_are_feasible.Goals as goal

pub returns : goal.returns
returns c = good_is_feasible
