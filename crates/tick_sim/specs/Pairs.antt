-- What the commands of a plan wait for, pair by pair.
use Rattle.std.specs.Prelude.{Bool, List, filter}
use Rattle.std.specs.List.{list_all}
use Rattle.rail_base.specs.declared.station.TrainNo.{TrainNo}
use Rattle.rail_base.specs.declared.plan.Command.{Command}
use Rattle.rail_base.specs.declared.state.TrainState.{TrainState}
use Rattle.rail_spec.specs.Plans.{precedes, preceding}
use Rattle.rail_course.specs.declared.planned.PlannedTrainPaths.{PlannedTrainPaths}
use Rattle.rail_course.specs.declared.waits.Wait.{Wait}
use Rattle.rail_course.specs.Itineraries.{AreTrainWaitsIn, AreWaitsIn, has_cleared_in}

module _ (p : PlannedTrainPaths) where
  -- the first command precedes the second
  abbrev pub precedes_in : Command → Command → Bool
  precedes_in = precedes p.train_paths.given.interlocking.now.routes p.plan.now.steps

  -- those of these commands that precede one have released all that they share with it
  abbrev pub have_cleared : Command → List Command → List (List TrainState) → Bool
  have_cleared c es ps = list_all (has_cleared_in p.train_paths.given ps c) (filter (λ e. precedes_in e c) es)

  -- the command's waits are over exactly where it is ready
  abbrev pub AreWaitsInPlan : Command → List Wait → Type 0
  AreWaitsInPlan = let given = p.train_paths.given in
      AreWaitsIn given (preceding given.interlocking.now.routes p.plan.now.steps)

  -- so are the waits of each command of a train's path
  abbrev pub AreTrainWaitsInPlan : TrainNo → List (List Wait) → Type 0
  AreTrainWaitsInPlan = let given = p.train_paths.given in
      AreTrainWaitsIn given (preceding given.interlocking.now.routes p.plan.now.steps)
