use Rattle.std.proofs.Common.{◌≡◌, IfOk, sym, ap, ◌∙◌, subst}
use Rattle.rail_course.specs.Tracks.{routes_at}
use Rattle.free_spec.specs.Legs.{least_whatever_follows}
use Rattle.free_moves.specs.Trips.{trip_ticks}
use Rattle.free_moves.proofs.Least.{goes_on_further, some_routes}
use Rattle.free_moves.proofs.trips.Trip.least_ticks.Goals as goal

pub returns : goal.returns
returns c =
    let f = trip_ticks c.args.self.now in
    let routes = c.args.self.now.interlocking.now.routes in
    let rs = routes_at routes c.args.path.now in
    let same = goes_on_further f rs c.from_boundary-rest.result routes c.in_ok-closed.closed (some_routes routes c.args.path.now (sym c.is_empty.ensures ∙ c.if-is_empty.false)) (sym c.exits.ensures ∙ c.if-exits.false) c.in_ok-closed.ensures
    ∙ ap (least_whatever_follows f routes rs) c.from_boundary-rest.ensures in
    subst (λ w. IfOk c.least_following.result (λ n. n ≡ w)) same c.least_following.ensures
