use Rattle.std.proofs.Common.{◌≡◌, ◌+◌, ◌-◌, ◌≤◌, if◌then◌else◌, take, ap, ap₂, ◌∙◌, arith}
use Rattle.std.specs.Option.{option_or}
use Rattle.rail_motion.specs.Track.{end_of, stretches_of}
use Rattle.rail_spec.specs.Plans.{path_routes}
use Rattle.rail_spec.specs.Dispatches.{rates, of_plan, stop_place, track_end, authority, with_granted, is_at}
use Rattle.rail_spec.specs.Motion.{MotorSeen, next_speed, permitted}
use Rattle.rail_course.proofs.Prefixing.{moved_is}
use Rattle.tick_sim.proofs.ride.Ride.move_train.Goals as goal

pub ahead-ahead-requires-clause-place : goal.ahead-ahead-requires-clause-place
ahead-ahead-requires-clause-place c =
    let run = c.args.self.now.run.now in
    let routes = run.interlocking.now.routes in
    (c.stop_place-place.ensures run.interlocking.now.design.station routes (of_plan routes run.plan.now.steps) c.args.self.now.led.train_path c.requires.within).1

pub advance-x-requires-clause-braking : goal.advance-x-requires-clause-braking
advance-x-requires-clause-braking c =
    let run = c.args.self.now.run.now in
    let d = run.interlocking.now.design.station in
    let routes = run.interlocking.now.routes in
    let dispatch = of_plan routes run.plan.now.steps in
    let train = c.args.self.now.journey.now.train_path.train in
    let s = c.args.state in
    let some : 1 ≤ c.args.granted = (let h = c.if-granted-eq0.false in omega arith) in
    let at : c.stop_place-place.result ≡ stop_place d routes dispatch train (with_granted c.args.granted s) = (c.stop_place-place.ensures d routes dispatch c.args.self.now.led.train_path c.requires.within).0 in
    let end : end_of c.ahead-ahead.result.end ≡ authority d routes dispatch train (with_granted c.args.granted s) = c.ahead-ahead.ensures.end ∙ ap (λ o. option_or o (track_end (take c.args.granted (path_routes routes run.plan.now.steps train)))) at in
    ap (λ (m : MotorSeen). permitted m (stretches_of c.ahead-ahead.result.spans.now) (end_of c.ahead-ahead.result.end) s.x s.v (s.v - m.brake)) c.args.self.now.led.train_path.motor
    ∙ ap₂ (λ ss e. permitted (rates d train) ss e s.x s.v (s.v - (rates d train).brake)) c.ahead-ahead.ensures.spans end
    ∙ c.requires.braking some

pub returns : goal.returns
returns c =
    let run = c.args.self.now.run.now in
    let d = run.interlocking.now.design.station in
    let routes = run.interlocking.now.routes in
    let dispatch = of_plan routes run.plan.now.steps in
    let train = c.args.self.now.journey.now.train_path.train in
    let s = c.args.state in
    let some : 1 ≤ c.args.granted = (let h = c.if-granted-eq0.false in omega arith) in
    let at : c.stop_place-place.result ≡ stop_place d routes dispatch train (with_granted c.args.granted s) = (c.stop_place-place.ensures d routes dispatch c.args.self.now.led.train_path c.requires.within).0 in
    let end : end_of c.ahead-ahead.result.end ≡ authority d routes dispatch train (with_granted c.args.granted s) = c.ahead-ahead.ensures.end ∙ ap (λ o. option_or o (track_end (take c.args.granted (path_routes routes run.plan.now.steps train)))) at in
    moved_is d routes dispatch train s c.args.granted c.advance-x.result.0 c.advance-x.result.1 c.stood_after-stood.result some
    (c.advance-x.ensures.speed
    ∙ ap (λ m. next_speed m (stretches_of c.ahead-ahead.result.spans.now) (end_of c.ahead-ahead.result.end) s.x s.v) c.args.self.now.led.train_path.motor
    ∙ ap₂ (λ ss e. next_speed (rates d train) ss e s.x s.v) c.ahead-ahead.ensures.spans end)
    c.advance-x.ensures.place
    (c.stood_after-stood.ensures ∙ ap (λ o. if is_at o s.x then s.stood + 1 else s.stood) at)
