-- The dispatch of a plan that is run.
use Rattle.rail_spec.specs.Dispatches.{Dispatch, of_plan}
use Rattle.rail_course.specs.declared.journeys.PlannedJourneys.{PlannedJourneys}

-- the dispatch of its plan
abbrev pub dispatch_of : PlannedJourneys → Dispatch
dispatch_of r = of_plan r.interlocking.now.routes r.plan.now.steps
