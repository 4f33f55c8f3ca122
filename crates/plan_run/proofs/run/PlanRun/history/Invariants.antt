use Rattle.rail_spec.specs.Dispatches.{of_plan}
use Rattle.plan_run.proofs.run.PlanRun.history.Given as goal

abbrev pub ghost-history_of_traffic : goal.ghost-history_of_traffic
ghost-history_of_traffic a = of_plan a.traffic.now.interlocking.now.routes a.plan.now.steps
