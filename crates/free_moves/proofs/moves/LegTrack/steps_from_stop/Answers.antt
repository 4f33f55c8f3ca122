use Rattle.std.proofs.Common.{◌≡◌, ◌+◌, min, sym, ap, ◌∙◌, arith}
use Rattle.free_spec.specs.Free.{steps_from_stop}
use Rattle.free_moves.specs.Moves.{free_on}
use Rattle.free_moves.proofs.Stepping.{from_stop, stop_on, stop_stands}
use Rattle.free_moves.proofs.moves.LegTrack.steps_from_stop.Goals as goal

pub returns-then-speed-eq0 : goal.returns-then-speed-eq0
returns-then-speed-eq0 c =
    let gain = c.accel.result + c.brake.result in
    let stops = stop_stands (free_on c.args.self.now) gain c.args.from c.args.most c.loop-ticks.ticks c.loop-ticks.place c.args.to c.free-speed.result _ c.loop-ticks-test.true c.if-place-to.true c.loop-ticks.invariant.in_reach c.free-speed.ensures.free (omega arith) c.loop-ticks.invariant.left in
    sym stops ∙ ap (λ n. steps_from_stop (free_on c.args.self.now) n c.args.from 0 c.args.most c.args.from c.args.to) c.loop-ticks.invariant.rate

pub loop-ticks-preserved : goal.loop-ticks-preserved
loop-ticks-preserved c =
    let gain = c.accel.result + c.brake.result in
    let at : c.min-place.result ≡ min (c.loop-ticks.place + c.free-speed.result) (from_stop gain c.args.from (c.loop-ticks.ticks + 1)) = c.min-place.ensures in
    let begun = c.loop-ticks.invariant.begun in
    record {
      few = omega arith;
      rate = c.loop-ticks.invariant.rate;
      small = c.loop-ticks.invariant.small;
      begun = omega arith;
      in_reach = omega arith;
      left = stop_on (free_on c.args.self.now) gain c.args.from c.args.most c.loop-ticks.ticks c.loop-ticks.place c.args.to c.free-speed.result _ c.min-place.result c.loop-ticks-test.true c.if-place-to.true c.free-speed.ensures.free at c.loop-ticks.invariant.left;
    }
