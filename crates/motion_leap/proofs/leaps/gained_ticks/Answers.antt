use Rattle.std.proofs.Common.{◌≡◌, ◌+◌, ◌-◌, ◌/◌, nat_abs, to_z, of_z, w64, arith}
use Rattle.std.proofs.lemmas.Int.{ints}
use Rattle.rail_motion.specs.Motor.{rates_of}
use Rattle.rail_motion.specs.Track.{stretches_of, end_of}
use Rattle.motion_leap.proofs.Found.{gains_some}
use Rattle.motion_leap.proofs.leaps.gained_ticks.Goals as goal

pub loop-low-preserved-then-may_come : goal.loop-low-preserved-then-may_come
loop-low-preserved-then-may_come c =
    let motor = c.args.motor.now in
    let accel_range = motor.accel_range in
    let top_range = motor.top_range in
    let accel : nat_abs (to_z w64 (of_z w64 motor.accel)) ≡ nat_abs motor.accel = omega (arith, ints) in
    let top : nat_abs (to_z w64 (of_z w64 motor.top)) ≡ nat_abs motor.top = omega (arith, ints) in
    let middle = c.loop-low.low + (c.loop-low.high - c.loop-low.low) / 2 in
    record {
      apart = omega arith;
      within = c.loop-low.invariant.within;
      near = c.loop-low.invariant.near;
      known = λ some. gains_some (rates_of motor) (stretches_of c.args.ahead.now.spans.now) (end_of c.args.ahead.now.end) c.args.x c.args.v c.args.target middle c.triangle.result _ _ accel top c.triangle.ensures.sum
          c.if-last-target.true c.if-speed-top.true (c.may_come.ensures.limits c.if-may_come.true) (c.may_come.ensures.braking c.if-may_come.true);
    }
