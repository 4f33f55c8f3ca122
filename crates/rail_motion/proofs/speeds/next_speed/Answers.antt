use Rattle.std.proofs.Common.{◌≡◌, ◌-◌, ◌≤◌, nat_abs, pos, to_z, w64, sym, ◌∙◌, ap, subst, arith}
use Rattle.std.proofs.lemmas.Int.{ints, to_z-of_z}
use Rattle.rail_spec.specs.Motion.{IsGreatestPermitted}
use Rattle.rail_laws.proofs.Points.{permitted_tells, next_is_greatest}
use Rattle.rail_motion.specs.Motor.{rates_of}
use Rattle.rail_motion.specs.Track.{stretches_of, end_of}
use Rattle.rail_motion.proofs.speeds.next_speed.Goals as goal

pub returns-clause-speed : goal.returns-clause-speed
returns-clause-speed c =
    let x = c.ranges.x in
    let v = c.ranges.v in
    let same : to_z w64 c.greatest_permitted.result ≡ pos c.greatest_permitted.result = omega (arith, ints) in
    same ∙ ap pos (simp to_z-of_z at c.greatest_permitted.ensures.speed)

pub returns-clause-greatest : goal.returns-clause-greatest
returns-clause-greatest c =
    let x_range = c.ranges.x in
    let v_range = c.ranges.v in
    let brake = c.args.motor.now.brake_range in
    let slows : 1 ≤ nat_abs c.args.motor.now.brake = omega (arith, ints) in
    let m = rates_of c.args.motor.now in
    let ss = stretches_of c.args.ahead.now.spans.now in
    let end = end_of c.args.ahead.now.end in
    let x = nat_abs c.args.x in
    let v = nat_abs c.args.v in
    let some = permitted_tells m ss end x v (v - m.brake) c.requires.braking in
    let same : nat_abs (to_z w64 c.greatest_permitted.result) ≡ c.greatest_permitted.result = omega (arith, ints) in
    subst (IsGreatestPermitted m ss end x v) (sym (same ∙ simp to_z-of_z at c.greatest_permitted.ensures.speed)) (next_is_greatest m ss end x v slows (v - m.brake) some)
