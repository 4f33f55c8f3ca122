use Rattle.std.proofs.Common.{◌≤◌, nat_abs, arith}
use Rattle.std.proofs.lemmas.Int.{ints}
use Rattle.rail_motion.specs.Motor.{rates_of}
use Rattle.free_moves.proofs.Gaining.{free_found}
use Rattle.free_moves.proofs.moves.LegTrack.free.Goals as goal

pub returns-clause-free : goal.returns-clause-free
returns-clause-free c =
    let brake = c.args.self.now.motor.brake_range in
    let slows : 1 ≤ nat_abs c.args.self.now.motor.brake = omega (arith, ints) in
    free_found (rates_of c.args.self.now.motor) _ _ _ c.args.place c.loop-low.low c.loop-low.high slows c.loop-low.invariant.apart c.loop-low.invariant.within (omega arith) c.loop-low.invariant.low_is c.loop-low.invariant.high_is
