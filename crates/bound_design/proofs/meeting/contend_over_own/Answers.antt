use Rattle.std.proofs.Common.{not, ◌==◌, sym, ap₂, ◌∙◌}
use Rattle.std.specs.List.{list_any}
use Rattle.rail_base.specs.declared.route.Route.{Route}
use Rattle.rail_base.specs.Routes.{has_section, route_at}
use Rattle.bound_design.proofs.OwnShared.{over_own}
use Rattle.bound_design.proofs.meeting.contend_over_own.Goals as goal

pub returns-then-ne : goal.returns-then-ne
returns-then-ne c =
    let routes = c.args.interlocking.now.routes in
    c.shares_own.ensures
    ∙ (ap₂ (λ (r q : Route). list_any (λ p. has_section q p.0) r.sections) c.route-route.ensures c.route.ensures
    ∙ over_own (not (c.args.first.train.0 == c.args.second.train.0)) (route_at routes c.args.first.route) (route_at routes c.args.second.route) (sym c.ne.ensures ∙ c.if-ne.true))
