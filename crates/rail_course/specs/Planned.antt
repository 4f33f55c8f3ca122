-- What the commands of a plan wait for.
use Rattle.std.specs.Prelude.{List}
use Rattle.std.specs.Global.{Vec}
use Rattle.rail_course.specs.declared.waits.Wait.{Wait}
use Rattle.rail_spec.specs.Dispatches.{of_plan}
use Rattle.rail_course.specs.declared.planned.PlannedTrainPaths.{PlannedTrainPaths}
use Rattle.rail_course.specs.Itineraries.{AllGiveIn}

module _ (p : PlannedTrainPaths) where
  -- the waits of each train, in file order, give what is ready in the plan
  abbrev pub AllGiveInPlan : List (List (Vec Wait)) → Type 0
  AllGiveInPlan = let given = p.train_paths.given in
      AllGiveIn given (of_plan given.interlocking.now.routes p.plan.now.steps)
