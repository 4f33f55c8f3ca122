use Rattle.std.proofs.Common.{◌≡◌, drop, map}
use Rattle.rail_base.specs.Routes.{route_at}
use Rattle.bound_spec.specs.Rides.{least_route}
use Rattle.leg_targets.specs.Visits.{origin_of}
use Rattle.bound_ticks.proofs.Least.{release_of}
use Rattle.bound_ticks.proofs.legs.Ride.to_release.Given as goal

-- the least so far, and of the routes left
abbrev pub invariant-loop-route : goal.invariant-loop-route
invariant-loop-route l = least_route (release_of l.self.interlocking.now l.self.most (origin_of l.self.from) l.self.leg.now.train l.walk) l.least (map (route_at l.self.interlocking.now.routes) (drop l.route-index l.next))
    ≡ least_route (release_of l.self.interlocking.now l.self.most (origin_of l.self.from) l.self.leg.now.train l.walk) l.self.most (map (route_at l.self.interlocking.now.routes) l.next)
