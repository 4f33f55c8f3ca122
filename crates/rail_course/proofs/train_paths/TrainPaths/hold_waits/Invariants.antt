use Rattle.std.proofs.Common.{◌≡◌, ◌+◌, ◌<◌, ◌^◌, ◌++◌, drop, map}
use Rattle.std.specs.List.{enumerate_from}
use Rattle.rail_course.specs.Itineraries.{hold_waits_in}
use Rattle.rail_course.proofs.Asking.{wait_of_hold}
use Rattle.rail_course.proofs.train_paths.TrainPaths.hold_waits.Given as goal

abbrev pub invariant-loop-hold : goal.invariant-loop-hold
invariant-loop-hold l = record {
  small : l.number < 2 ^ 52 + l.hold-index;
  left : l.waits.items ++ map wait_of_hold (enumerate_from l.number (drop l.hold-index l.hold-items)) ≡ hold_waits_in l.self.given l.fn.command;
}
