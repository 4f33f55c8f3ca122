use Rattle.std.proofs.Common.{◌≡◌, ◌≤◌, nat_abs, false, true, take, refl, ap, sym, ◌∙◌, subst, arith, length}
use Rattle.std.proofs.lemmas.Int.{ints}
use Rattle.rail_motion.specs.Motor.{rates_of}
use Rattle.rail_motion.specs.Track.{stretches_of, end_of}
use Rattle.rail_spec.specs.Dispatches.{stretches, stop_place, stands, is_at}
use Rattle.rail_course.specs.TrainPaths.{IsTrainPath}
use Rattle.rail_course.specs.Tracks.{routes_at}
use Rattle.motion_leap.specs.Steps.{Going, going, after}
use Rattle.dispatch_run.proofs.Going.{authority_is, braking_is, drift_none, end, not_far, track, under_way_is}
use Rattle.dispatch_run.proofs.StandingStill.{same_state, stands_all, moves_all, way}
use Rattle.dispatch_run.proofs.traffic.Traffic.go_ticks.Goals as goal

pub ahead-ahead-requires-clause-train_path : goal.ahead-ahead-requires-clause-train_path
ahead-ahead-requires-clause-train_path g c =
    let train_path = c.requires.0.journey.train_path in
    subst (λ path. IsTrainPath c.args.self.now.interlocking.now.design.station c.args.self.now.interlocking.now.routes path c.args.followed_train.now.journey.train_path) (sym train_path.given) train_path

pub ahead-ahead-requires-clause-granted : goal.ahead-ahead-requires-clause-granted
ahead-ahead-requires-clause-granted g c =
    let same = ap length c.requires.0.journey.train_path.given in
    let within = c.requires.1.0.within in
    omega arith

pub ahead-ahead-requires-clause-place : goal.ahead-ahead-requires-clause-place
ahead-ahead-requires-clause-place g c =
    (c.stop_place-place.ensures c.args.self.now.interlocking.now.design.station c.args.self.now.interlocking.now.routes g.dispatch c.requires.0.journey.train_path c.requires.1.0.within).1

pub advance_until-moved-requires-clause-braking : goal.advance_until-moved-requires-clause-braking
advance_until-moved-requires-clause-braking g c =
    let d = c.args.self.now.interlocking.now.design.station in
    let routes = c.args.self.now.interlocking.now.routes in
    let train_path = c.args.followed_train.now.journey.train_path in
    let t = train_path.train in
    let s = c.args.state in
    let some : 1 ≤ s.granted = (let h = c.if-state-eq0.false in omega arith) in
    let at : c.stop_place-place.result ≡ stop_place d routes g.dispatch t s = (c.stop_place-place.ensures d routes g.dispatch c.requires.0.journey.train_path c.requires.1.0.within).0 in
    let given = c.requires.0.journey.train_path.given in
    let spans : stretches_of c.ahead-ahead.result.spans.now ≡ track d routes g.dispatch t s.granted = c.ahead-ahead.ensures.spans ∙ ap (λ ps. stretches d (take s.granted (routes_at routes ps))) given in
    let goes_to : end_of c.ahead-ahead.result.end ≡ end d routes g.dispatch t s.granted s = c.ahead-ahead.ensures.end ∙ authority_is d routes g.dispatch t s.granted s train_path.path.items c.stop_place-place.result given at in
    braking_is d routes g.dispatch t s.granted s (rates_of train_path.motor) (stretches_of c.ahead-ahead.result.spans.now) (end_of c.ahead-ahead.result.end) c.requires.0.journey.train_path.motor spans goes_to some c.requires.1.0

pub returns-then-state-eq0 : goal.returns-then-state-eq0
returns-then-state-eq0 g c =
    sym (drift_none c.args.self.now.interlocking.now.design.station c.args.self.now.interlocking.now.routes g.dispatch c.args.followed_train.now.journey.train_path.train c.args.ticks c.args.state c.if-state-eq0.true)

pub returns-then-stands : goal.returns-then-stands
returns-then-stands g c =
    let d = c.args.self.now.interlocking.now.design.station in
    let routes = c.args.self.now.interlocking.now.routes in
    let train_path = c.args.followed_train.now.journey.train_path in
    let t = train_path.train in
    let s = c.args.state in
    let some : 1 ≤ s.granted = (let h = c.if-state-eq0.false in omega arith) in
    let at : c.stop_place-place.result ≡ stop_place d routes g.dispatch t s = (c.stop_place-place.ensures d routes g.dispatch c.requires.0.journey.train_path c.requires.1.0.within).0 in
    let stand : stands d routes g.dispatch t s ≡ true = ap (λ o. is_at o s.x) (sym at) ∙ sym c.stands.ensures ∙ c.if-stands.true in
    c.stand_on.ensures ∙ sym (stands_all d routes g.dispatch t s.granted c.args.ticks s refl some c.requires.1.1.1 stand)

pub returns : goal.returns
returns g c =
    let d = c.args.self.now.interlocking.now.design.station in
    let routes = c.args.self.now.interlocking.now.routes in
    let train_path = c.args.followed_train.now.journey.train_path in
    let t = train_path.train in
    let s = c.args.state in
    let some : 1 ≤ s.granted = (let h = c.if-state-eq0.false in omega arith) in
    let at : c.stop_place-place.result ≡ stop_place d routes g.dispatch t s = (c.stop_place-place.ensures d routes g.dispatch c.requires.0.journey.train_path c.requires.1.0.within).0 in
    let given = c.requires.0.journey.train_path.given in
    let spans : stretches_of c.ahead-ahead.result.spans.now ≡ track d routes g.dispatch t s.granted = c.ahead-ahead.ensures.spans ∙ ap (λ ps. stretches d (take s.granted (routes_at routes ps))) given in
    let goes_to : end_of c.ahead-ahead.result.end ≡ end d routes g.dispatch t s.granted s = c.ahead-ahead.ensures.end ∙ authority_is d routes g.dispatch t s.granted s train_path.path.items c.stop_place-place.result given at in
    let moved = c.advance_until-moved.ensures in
    let m = rates_of train_path.motor in
    let ss = stretches_of c.ahead-ahead.result.spans.now in
    let e = end_of c.ahead-ahead.result.end in
    let range = train_path.motor.top_range in
    let top : nat_abs train_path.motor.top ≤ 100000 = omega (arith, ints) in
    let away : stands d routes g.dispatch t s ≡ false = ap (λ o. is_at o s.x) (sym at) ∙ sym c.stands.ensures ∙ c.if-stands.false in
    let all : c.advance_until-moved.result.ticks ≡ c.args.ticks =
    not_far m ss e c.advance_until-moved.result.ticks c.args.ticks 140737488355327 s.x s.v top c.requires.1.0.below_2_46 c.requires.1.1.0 moved.at_most refl
    (λ less. subst (λ (p : Going). 140737488355327 ≤ p.x) moved.state (moved.ends less)) in
    let there : going c.advance_until-moved.result.x c.advance_until-moved.result.v ≡ way d routes g.dispatch t s.granted s c.args.ticks =
    moved.state ∙ ap (λ n. after m ss e n (going s.x s.v)) all
    ∙ under_way_is d routes g.dispatch t s.granted c.args.ticks s (going s.x s.v) m ss e c.requires.0.journey.train_path.motor spans goes_to in
    same_state s.granted s.granted _ _ _ _ s.stood s.stood refl (ap (λ (p : Going). p.x) there) (ap (λ (p : Going). p.v) there) refl
    ∙ sym (moves_all d routes g.dispatch t s.granted c.args.ticks s refl some c.requires.1.0 c.requires.1.1.1 away)
