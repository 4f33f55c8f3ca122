-- What the free commands of a cone wait for.
use Rattle.std.specs.Prelude.{List}
use Rattle.std.specs.Global.{Vec}
use Rattle.rail_base.specs.declared.station.TrainNo.{TrainNo}
use Rattle.rail_base.specs.declared.plan.Command.{Command}
use Rattle.rail_course.specs.declared.waits.Wait.{Wait}
use Rattle.rail_course.specs.Itineraries.{AllGiveIn, AreTrainWaitsIn, AreWaitsIn}
use Rattle.cone_spec.specs.Cones.{of_cone}
use Rattle.cone_run.specs.declared.paths.ConePaths.{ConePaths}

module _ (p : ConePaths) where
  -- the waits of a command, which waits for those that are listed before it, are over exactly where it is ready
  abbrev pub AreWaitsInCone : Command → List Wait → Type 0
  AreWaitsInCone = AreWaitsIn p.train_paths.given (of_cone p.layout.cone.now).before

  -- so are the waits of each free command of a train
  abbrev pub AreTrainWaitsInCone : TrainNo → List (List Wait) → Type 0
  AreTrainWaitsInCone = AreTrainWaitsIn p.train_paths.given (of_cone p.layout.cone.now).before

  -- the waits of each train, in file order, give what is ready in the run of the cone
  abbrev pub AllGiveInCone : List (List (Vec Wait)) → Type 0
  AllGiveInCone = AllGiveIn p.train_paths.given (of_cone p.layout.cone.now)
