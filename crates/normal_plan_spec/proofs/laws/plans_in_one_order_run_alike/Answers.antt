use Rattle.normal_plan_spec.proofs.Running.{run_alike, meet_alike}
use Rattle.normal_plan_spec.proofs.laws.plans_in_one_order_run_alike.Goals as goal

pub returns-clause-run : goal.returns-clause-run
returns-clause-run c = λ d routes plan other same. run_alike d routes plan other same

pub returns-clause-met : goal.returns-clause-met
returns-clause-met c = λ d routes plan other same. meet_alike d routes plan other same
