use Rattle.std.proofs.Common.{◌≡◌, ap, sym, ◌∙◌, subst, arith}
use Rattle.quiet_spec.specs.Quiet.{ComesNowhere, drift}
use Rattle.dispatch_run.specs.Drifts.{going_with}
use Rattle.dispatch_run.proofs.Going.{drift_goes_on}
use Rattle.dispatch_run.proofs.traffic.Traffic.drift_on.Goals as goal

pub go_ticks-requires : goal.go_ticks-requires
go_ticks-requires g c =
    let d = c.args.self.now.interlocking.now.design.station in
    let routes = c.args.self.now.interlocking.now.routes in
    let t = c.args.followed_train.now.journey.train_path.train in
    let s = c.args.state in
    let goes : drift d routes g.dispatch t c.args.since c.args.ticks s ≡ going_with d routes g.dispatch t s.granted c.followed_ticks.result s =
    drift_goes_on d routes g.dispatch t c.args.followed_train.now.until c.requires.0.following s.granted c.args.since c.args.ticks s
    ∙ sym (ap (λ n. going_with d routes g.dispatch t s.granted n s) c.followed_ticks.ensures.value) in
    let few = c.followed_ticks.ensures.within in
    let most = c.requires.1.1.0 in
    (c.requires.0, (c.requires.1.0, (omega arith, subst (ComesNowhere d routes g.dispatch t s) goes c.requires.1.1.1)))

pub returns : goal.returns
returns g c =
    let d = c.args.self.now.interlocking.now.design.station in
    let routes = c.args.self.now.interlocking.now.routes in
    let train_path = c.args.followed_train.now.journey.train_path in
    let t = train_path.train in
    let s = c.args.state in
    c.go_ticks.ensures ∙ ap (λ n. going_with d routes g.dispatch t s.granted n s) c.followed_ticks.ensures.value
    ∙ sym (drift_goes_on d routes g.dispatch t c.args.followed_train.now.until c.requires.0.following s.granted c.args.since c.args.ticks s)
