use Rattle.std.proofs.Common.{Bool, false, ◌&&◌, ◌||◌, not, length, refl, ap₂, ◌∙◌, arith}
use Rattle.std.specs.List.{list_all}
use Rattle.rail_base.specs.declared.route.Route.{Route}
use Rattle.rail_base.specs.declared.route.RouteNo.{RouteNo}
use Rattle.rail_base.specs.Numbering.{entry}
use Rattle.rail_spec.specs.Plans.{route_at, route_numbers}
use Rattle.bound_design.proofs.Openings.{taken}
use Rattle.bound_design.proofs.tracks.unmarked_routes.Goals as goal

pub loop-number-preserved : goal.loop-number-preserved
loop-number-preserved c = λ test.
    let routes = c.args.interlocking.now.routes in
    let own = c.args.own.now in
    let kept = c.args.kept.now in
    let k = c.loop-number.number in
    let marked : RouteNo → Bool = λ r. not (test (route_at routes r)) || entry false own r.0 || entry false kept r.0 in
    let inside = c.loop-number-test.true in
    let before = list_all (λ r. not (test r.now)) c.loop-number.open.items in
    let here = ap₂ (λ (r : Route) (b : Bool). before && (not (test r) || b)) c.route.ensures c.is_marked.ensures in
    let after = list_all (λ r. not (test r.now)) c.push_unless.new.open.items in
    taken marked (length routes) k before after (not (test (route_at routes (record { 0 = k })))) (entry false own k) (entry false kept k) (list_all marked (route_numbers routes)) (omega arith) refl (c.in_ok-push_unless.ensures test ∙ here) (c.loop-number.invariant test)
