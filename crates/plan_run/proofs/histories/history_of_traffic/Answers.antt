use Rattle.std.proofs.Common.{ap, ◌∙◌}
use Rattle.quiet_spec.specs.Histories.{history_at}
use Rattle.plan_run.proofs.histories.history_of_traffic.Goals as goal

pub returns : goal.returns
returns g c =
    let d = c.args.traffic.now.interlocking.now.design.station in
    let routes = c.args.traffic.now.interlocking.now.routes in
    let found = c.in_ok-progress.ensures in
    found.is.recorded ∙ ap (history_at d routes g.dispatch) found.tick ∙ ap (λ p. history_at d routes p c.args.tick) c.requires.0.same
