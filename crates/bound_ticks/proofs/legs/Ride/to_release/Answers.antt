use Rattle.std.proofs.Common.{ap, ◌∙◌}
use Rattle.rail_base.specs.Routes.{route_at}
use Rattle.rail_course.specs.Tracks.{routes_at}
use Rattle.bound_ticks.specs.Chains.{ticks_on}
use Rattle.leg_targets.specs.Visits.{origin_of}
use Rattle.bound_ticks.proofs.Least.{release_of, route_step}
use Rattle.bound_ticks.proofs.legs.Ride.to_release.Goals as goal

pub loop-route-preserved : goal.loop-route-preserved
loop-route-preserved c =
    let p = c.args.self.now in
    let i = p.interlocking.now in
    let from = origin_of p.from in
    let at = ap (ticks_on i.design.station i.routes p.most from p.leg.now.train (routes_at i.routes c.args.walk.now)) c.release_place-place.ensures.place in
    route_step (release_of i p.most from p.leg.now.train c.args.walk.now) (route_at i.routes) c.args.next.now c.loop-route.route-index _ c.loop-route.least c.min-least.result _ _ c.loop-route-test.true (c.in_ok-ticks_on.ensures ∙ at) c.min-least.ensures c.loop-route.invariant
