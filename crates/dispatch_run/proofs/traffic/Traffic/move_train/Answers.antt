use Rattle.std.proofs.Common.{◌≡◌, ◌+◌, ◌≤◌, if◌then◌else◌, take, ap, sym, ◌∙◌, subst, arith, length}
use Rattle.rail_motion.specs.Motor.{rates_of}
use Rattle.rail_motion.specs.Track.{stretches_of, end_of}
use Rattle.rail_spec.specs.Dispatches.{stretches, with_granted, stop_place, is_at}
use Rattle.rail_course.specs.TrainPaths.{IsTrainPath}
use Rattle.rail_course.specs.Tracks.{routes_at}
use Rattle.rail_course.proofs.Prefixing.{moved_is}
use Rattle.dispatch_run.proofs.Going.{authority_is, braking_is, end, speed_is, track}
use Rattle.dispatch_run.proofs.traffic.Traffic.move_train.Goals as goal

pub ahead-ahead-requires-clause-train_path : goal.ahead-ahead-requires-clause-train_path
ahead-ahead-requires-clause-train_path g c =
    let train_path = c.requires.0.journey.train_path in
    subst (λ path. IsTrainPath c.args.self.now.interlocking.now.design.station c.args.self.now.interlocking.now.routes path c.args.followed_train.now.journey.train_path) (sym train_path.given) train_path

pub ahead-ahead-requires-clause-granted : goal.ahead-ahead-requires-clause-granted
ahead-ahead-requires-clause-granted g c =
    let same = ap length c.requires.0.journey.train_path.given in
    let within = c.requires.1.within in
    omega arith

pub ahead-ahead-requires-clause-place : goal.ahead-ahead-requires-clause-place
ahead-ahead-requires-clause-place g c =
    (c.stop_place-place.ensures c.args.self.now.interlocking.now.design.station c.args.self.now.interlocking.now.routes g.dispatch c.requires.0.journey.train_path c.requires.1.within).1

pub advance-x-requires-clause-braking : goal.advance-x-requires-clause-braking
advance-x-requires-clause-braking g c =
    let d = c.args.self.now.interlocking.now.design.station in
    let routes = c.args.self.now.interlocking.now.routes in
    let train_path = c.args.followed_train.now.journey.train_path in
    let t = train_path.train in
    let s = c.args.state in
    let n = c.args.granted in
    let given = c.requires.0.journey.train_path.given in
    let some : 1 ≤ n = (let h = c.if-granted-eq0.false in omega arith) in
    let at : c.stop_place-place.result ≡ stop_place d routes g.dispatch t (with_granted n s) = (c.stop_place-place.ensures d routes g.dispatch c.requires.0.journey.train_path c.requires.1.within).0 in
    let spans : stretches_of c.ahead-ahead.result.spans.now ≡ track d routes g.dispatch t n = c.ahead-ahead.ensures.spans ∙ ap (λ ps. stretches d (take n (routes_at routes ps))) given in
    let goes_to : end_of c.ahead-ahead.result.end ≡ end d routes g.dispatch t n s = c.ahead-ahead.ensures.end ∙ authority_is d routes g.dispatch t n s train_path.path.items c.stop_place-place.result given at in
    braking_is d routes g.dispatch t n s (rates_of train_path.motor) (stretches_of c.ahead-ahead.result.spans.now) (end_of c.ahead-ahead.result.end) c.requires.0.journey.train_path.motor spans goes_to some c.requires.1

pub returns : goal.returns
returns g c =
    let d = c.args.self.now.interlocking.now.design.station in
    let routes = c.args.self.now.interlocking.now.routes in
    let train_path = c.args.followed_train.now.journey.train_path in
    let t = train_path.train in
    let s = c.args.state in
    let n = c.args.granted in
    let given = c.requires.0.journey.train_path.given in
    let some : 1 ≤ n = (let h = c.if-granted-eq0.false in omega arith) in
    let at : c.stop_place-place.result ≡ stop_place d routes g.dispatch t (with_granted n s) = (c.stop_place-place.ensures d routes g.dispatch c.requires.0.journey.train_path c.requires.1.within).0 in
    let spans : stretches_of c.ahead-ahead.result.spans.now ≡ track d routes g.dispatch t n = c.ahead-ahead.ensures.spans ∙ ap (λ ps. stretches d (take n (routes_at routes ps))) given in
    let goes_to : end_of c.ahead-ahead.result.end ≡ end d routes g.dispatch t n s = c.ahead-ahead.ensures.end ∙ authority_is d routes g.dispatch t n s train_path.path.items c.stop_place-place.result given at in
    moved_is d routes g.dispatch t s n c.advance-x.result.0 c.advance-x.result.1 c.stood_after-stood.result some
    (c.advance-x.ensures.speed ∙ speed_is d routes g.dispatch t n s (rates_of train_path.motor) (stretches_of c.ahead-ahead.result.spans.now) (end_of c.ahead-ahead.result.end) c.requires.0.journey.train_path.motor spans goes_to)
    c.advance-x.ensures.place
    (c.stood_after-stood.ensures ∙ ap (λ o. if is_at o s.x then s.stood + 1 else s.stood) at)
