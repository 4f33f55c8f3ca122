use Rattle.std.proofs.Common.{◌≡◌, ◌++◌, All, drop, map}
use Rattle.rail_base.specs.Stations.{trains}
use Rattle.rail_course.specs.declared.train_path.TrainPath.{TrainPath}
use Rattle.rail_course.specs.declared.journey.Journey.{Journey}
use Rattle.rail_spec.specs.Dispatches.{Dispatch}
use Rattle.rail_course.specs.Itineraries.{AllGiveIn, path_in}
use Rattle.rail_course.specs.Journeys.{IsJourney}
use Rattle.rail_course.proofs.train_paths.TrainPaths.into_journeys.Given as goal

abbrev pub invariant-loop-number : goal.invariant-loop-number
invariant-loop-number l = record {
  left : l.left.items ≡ drop l._number l.fn.self.train_paths.items;
  waits : l.all_waits.items ≡ drop l._number l.fn.waits.items;
  each : (p : Dispatch) → path_in l.given ≡ p.path → AllGiveIn l.given p l.fn.waits.items → All (IsJourney l.given.interlocking.now.design.station l.given.interlocking.now.routes p) l.journeys.items;
  all : map (λ (j : Journey). j.train_path.train) l.journeys.items ++ map (λ (c : TrainPath). c.train) (drop l._number l.fn.self.train_paths.items) ≡ trains l.given.interlocking.now.design.station;
}
