use Rattle.std.proofs.Common.{◌≡◌, ◌≤◌, nat_abs, sym, ◌∙◌, arith}
use Rattle.std.proofs.lemmas.Int.{ints, to_z-of_z}
use Rattle.rail_spec.specs.Motion.{permitted}
use Rattle.rail_laws.proofs.Points.{permitted_tells, permitted_from}
use Rattle.rail_motion.specs.Motor.{rates_of}
use Rattle.rail_motion.specs.Track.{stretches_of, end_of}
use Rattle.rail_motion.proofs.speeds.is_permitted.Goals as goal

pub returns-clause-points : goal.returns-clause-points
returns-clause-points c =
    let x_range = c.ranges.x in
    let v_range = c.ranges.v in
    let u_range = c.ranges.u in
    let brake = c.args.motor.now.brake_range in
    let slows : 1 ≤ nat_abs c.args.motor.now.brake = omega (arith, ints) in
    let m = rates_of c.args.motor.now in
    let ss = stretches_of c.args.ahead.now.spans.now in
    let end = end_of c.args.ahead.now.end in
    let x = nat_abs c.args.x in
    let v = nat_abs c.args.v in
    let u = nat_abs c.args.u in
    let same : c.permits.result ≡ permitted m ss end x v u = simp to_z-of_z at c.permits.ensures in
    ((λ h. permitted_tells m ss end x v u (sym same ∙ h)), (λ h. same ∙ permitted_from m ss end x v u slows h))
