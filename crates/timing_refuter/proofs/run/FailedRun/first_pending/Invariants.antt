use Rattle.std.proofs.Common.{◌≤◌, ◌<◌}
use Rattle.rail_base.specs.declared.station.TrainNo.{TrainNo}
use Rattle.timing_refuter.specs.Raises.{horizon_in}
use Rattle.timing_refuter.proofs.run.FailedRun.first_pending.Given as goal

abbrev pub invariant-loop-number : goal.invariant-loop-number
invariant-loop-number l = record {
  first : 1 ≤ l.number;
  followed : (t : TrainNo) → 1 ≤ t.0 → t.0 < l.number → horizon_in l.horizons t ≤ horizon_in l.followed t;
}
