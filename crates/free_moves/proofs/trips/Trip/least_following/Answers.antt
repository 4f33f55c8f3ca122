use Rattle.std.proofs.Common.{◌+◌, ◌-◌, ◌<◌, drop, length, ap, ◌∙◌, arith}
use Rattle.rail_base.specs.declared.route.RouteNo.{RouteNo}
use Rattle.rail_base.specs.Routes.{route_at}
use Rattle.cone_spec.specs.Clauses.{goes_further}
use Rattle.rail_course.specs.Tracks.{routes_at}
use Rattle.free_moves.specs.Trips.{trip_ticks}
use Rattle.free_moves.proofs.Least.{routes_from, one_more, no_more}
use Rattle.free_moves.proofs.trips.Trip.least_following.Goals as goal
use Rattle.free_moves.proofs.trips.Trip.least_following.Goals.{then-goes_further+in_ok-ticks_with_next, else-goes_further}

pub loop-number-preserved : goal.loop-number-preserved
loop-number-preserved c =
    let routes = c.args.self.now.interlocking.now.routes in
    let n = c.loop-number.number in
    let number : RouteNo = record { 0 = n } in
    let rs = routes_at routes c.args.path.now in
    let test = c.loop-number-test.true in
    let less : n < length routes + 1 = omega arith in
    let split = routes_from routes n c.loop-number.invariant.first less in
    let goes = c.goes_further.ensures ∙ ap (goes_further rs) c.route_at.ensures in
    record {
      first = omega arith;
      left = elim c.if-goes_further.branch [
        | then-goes_further+in_ok-ticks_with_next w ↦ one_more (trip_ticks c.args.self.now) rs c.args.rest (drop (n - 1) routes) (drop (n + 1 - 1) routes) (route_at routes number) c.goes_further.result c.loop-number.least _ _ _ split goes w.if-goes_further.true w.in_ok-ticks_with_next.ensures (w.least-is ∙ w.min-least.ensures) c.loop-number.invariant.left
        | else-goes_further w ↦ no_more (trip_ticks c.args.self.now) rs c.args.rest (drop (n - 1) routes) (drop (n + 1 - 1) routes) (route_at routes number) c.goes_further.result c.loop-number.least _ _ split goes w.if-goes_further.false w.least-is c.loop-number.invariant.left
      ];
    }
