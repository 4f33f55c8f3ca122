use Rattle.std.proofs.Common.{◌≡◌, ◌++◌, take, length}
use Rattle.rail_base.specs.declared.station.TrainNo.{TrainNo}
use Rattle.rail_base.specs.Stations.{IsTrain}
use Rattle.rail_spec.specs.Plans.{path, routes_given}
use Rattle.dispatcher.specs.Planned.{AreWaitsIn}
use Rattle.dispatcher.proofs.planned.push_step.Given as goal
use Rattle.rail_course.specs.Ready.{own_waits}

abbrev pub invariant-loop-command : goal.invariant-loop-command
invariant-loop-command l = record {
  many : length l.waits.items ≡ length l.planned.train_paths.given.interlocking.now.design.station.trains;
  known : (t : TrainNo) → IsTrain l.planned.train_paths.given.interlocking.now.design.station t
      → AreWaitsIn l.planned t (path (take l.number l.planned.plan.now.steps) t ++ routes_given t (take l.command-index l.step)) (own_waits l.waits.items t);
}
