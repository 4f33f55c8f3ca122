use Rattle.std.proofs.Common.{sym, arith}
use Rattle.free_moves.specs.Moves.{free_on}
use Rattle.free_moves.proofs.Stepping.{step_on, stands}
use Rattle.free_moves.proofs.moves.LegTrack.steps.Goals as goal

pub returns-then-speed-eq0 : goal.returns-then-speed-eq0
returns-then-speed-eq0 c =
    sym (stands (free_on c.args.self.now) c.args.most c.loop-ticks.ticks c.loop-ticks.place c.args.to c.free-speed.result _ c.loop-ticks-test.true c.if-place-to.true c.free-speed.ensures.free (omega arith) c.loop-ticks.invariant.left)

pub loop-ticks-preserved : goal.loop-ticks-preserved
loop-ticks-preserved c = record {
  few = omega arith;
  left = step_on (free_on c.args.self.now) c.args.most c.loop-ticks.ticks c.loop-ticks.place c.args.to c.free-speed.result _ c.loop-ticks-test.true c.if-place-to.true c.free-speed.ensures.free c.loop-ticks.invariant.left;
}
