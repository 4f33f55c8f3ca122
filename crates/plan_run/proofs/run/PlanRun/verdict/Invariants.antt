use Rattle.rail_spec.specs.Dispatches.{of_plan}
use Rattle.plan_run.proofs.run.PlanRun.verdict.Given as goal

abbrev pub ghost-verdict_by_events : goal.ghost-verdict_by_events
ghost-verdict_by_events a = of_plan a.traffic.now.interlocking.now.routes a.plan.now.steps
