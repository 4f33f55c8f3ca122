use Rattle.std.proofs.Common.{arith, le_refl}
use Rattle.std.proofs.lemmas.Int.{ints}
use Rattle.rail_motion.specs.Motor.{rates_of}
use Rattle.rail_motion.specs.Track.{stretches_of, end_of}
use Rattle.rail_laws.proofs.MotionLaws.{permitted_after, permitted_stop}
use Rattle.rail_motion.proofs.Moves.{permitted_keeps}
use Rattle.rail_motion.proofs.speeds.advance.Goals as goal

pub returns-clause-braking : goal.returns-clause-braking
returns-clause-braking c =
    let brake = c.args.motor.now.brake_range in
    permitted_after (rates_of c.args.motor.now) (stretches_of c.args.ahead.now.spans.now) (end_of c.args.ahead.now.end) c.args.place c.args.speed c.greatest_permitted-next.result
    (omega (arith, ints)) c.greatest_permitted-next.ensures.permitted

pub returns-clause-in_authority : goal.returns-clause-in_authority
returns-clause-in_authority c =
    permitted_stop (rates_of c.args.motor.now) (stretches_of c.args.ahead.now.spans.now) (end_of c.args.ahead.now.end) c.args.place c.args.speed c.greatest_permitted-next.result _
    (le_refl _) c.greatest_permitted-next.ensures.permitted

pub returns-clause-limits : goal.returns-clause-limits
returns-clause-limits c =
    permitted_keeps (rates_of c.args.motor.now) (stretches_of c.args.ahead.now.spans.now) (end_of c.args.ahead.now.end) c.args.place c.args.speed c.greatest_permitted-next.result
    c.greatest_permitted-next.ensures.permitted
