use Rattle.std.proofs.Common.{◌≡◌, drop, map}
use Rattle.rail_course.specs.Tracks.{routes_at}
use Rattle.bound_spec.specs.Walks.{least_walk}
use Rattle.bound_ticks.specs.Chains.{to_visit}
use Rattle.leg_targets.specs.Visits.{origin_of, visit_of}
use Rattle.bound_ticks.proofs.legs.Ride.leg_to_visit.Given as goal

-- the least so far, and of the walks left
abbrev pub invariant-loop-walk : goal.invariant-loop-walk
invariant-loop-walk l =
    let i = l.self.interlocking.now in
    let f = to_visit i.design.station i.routes l.self.most (origin_of l.self.from) l.self.leg.now.train (visit_of l.visit) in
    least_walk f l.least (map (routes_at i.routes) (drop l.walk-index l.walk-items)) ≡ least_walk f l.self.most (map (routes_at i.routes) l.walk-items)
