use Rattle.std.proofs.Common.{◌≡◌, ◌+◌, ◌≤◌, nat_abs, sym, arith}
use Rattle.std.proofs.lemmas.Int.{ints}
use Rattle.rail_laws.proofs.MotionLaws.{next_speed_is}
use Rattle.rail_motion.specs.Motor.{rates_of}
use Rattle.rail_motion.proofs.Moves.{moves_on}
use Rattle.rail_motion.proofs.Obstructing.{not_permitted}
use Rattle.rail_motion.proofs.speeds.greatest_permitted.Goals as goal

pub least_forbidden-high-requires-clause-high_is : goal.least_forbidden-high-requires-clause-high_is
least_forbidden-high-requires-clause-high_is c =
    let found = c.obstacle-found.ensures.some c.in-Some.found c.in-Some.is in
    let above = c.speed_to_try-guess.ensures.above in
    rw c.brake-brake.ensures.rate (found.forbidden (omega arith))

pub loop-low-preserved : goal.loop-low-preserved
loop-low-preserved c =
    let found = c.obstacle-found.ensures.some c.in-Some.found c.in-Some.is in
    let before = c.speed_to_try-guess.ensures.below in
    let least = c.least_forbidden-high.ensures in
    let invariant = c.loop-low.invariant in
    record {
      apart = least.above;
      within = omega arith;
      low_is = invariant.low_is;
      high_is = not_permitted (rates_of c.args.motor.now) _ _ c.args.place c.args.speed c.least_forbidden-high.result (found.obstructs c.least_forbidden-high.result (rw (sym c.brake-brake.ensures.rate) least.forbidden));
    }

pub returns-clause-speed : goal.returns-clause-speed
returns-clause-speed c =
    let brake = c.args.motor.now.brake_range in
    let slows : 1 ≤ nat_abs c.args.motor.now.brake = omega (arith, ints) in
    let next : c.loop-low.high ≡ c.loop-low.low + 1 = omega arith in
    sym (next_speed_is _ _ _ _ _ _ slows c.loop-low.invariant.low_is (rw next at c.loop-low.invariant.high_is))

pub returns-clause-moves : goal.returns-clause-moves
returns-clause-moves c =
    let motor = c.args.motor.now in
    let accel = motor.accel_range in
    let brake = motor.brake_range in
    let top = motor.top_range in
    moves_on (rates_of motor) c.args.ahead.now.spans.now _ c.args.place c.args.speed c.loop-low.low c.loop-low.high (omega (arith, ints)) (omega (arith, ints)) (omega (arith, ints)) (omega arith) (omega arith)
    c.loop-low.invariant.high_is
