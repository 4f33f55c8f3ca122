use Rattle.std.proofs.Common.{◌≡◌, ◌++◌, drop, map}
use Rattle.rail_course.specs.Itineraries.{own_waits_in}
use Rattle.rail_course.proofs.Asking.{wait_of_release}
use Rattle.rail_course.proofs.train_paths.TrainPaths.own_waits.Given as goal

abbrev pub invariant-loop-release : goal.invariant-loop-release
invariant-loop-release l = l.waits.items ++ map (wait_of_release l.command.train) (drop l.release-index l.release-items) ≡ own_waits_in l.self.given l.command
