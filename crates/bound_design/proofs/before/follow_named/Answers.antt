use Rattle.std.proofs.Common.{List, Bor, ap₂, ◌∙◌}
use Rattle.std.specs.List.{list_all}
use Rattle.rail_base.specs.declared.route.Route.{Route}
use Rattle.rail_spec.specs.Plans.{goes_on, route_at}
use Rattle.bound_design.proofs.before.follow_named.Goals as goal

pub returns : goal.returns
returns c =
    let routes = c.args.interlocking.now.routes in
    c.all_go_on.ensures
    ∙ (ap₂ (λ (r : Route) (rs : List (Bor Route)). list_all (λ q. goes_on r.finish q.now.start) rs) c.route.ensures c.as_slice.ensures.value
    ∙ c.in_ok-routes.ensures (λ q. goes_on (route_at routes c.args.route).finish q.start))
