-- Whether a visit is made before the place to which the first leg leads.
use Rattle.std.specs.Prelude.{ℕ, Bool, List, map, nat_le}
use Rattle.std.specs.List.{list_all}
use Rattle.rail_base.specs.declared.station.TrainNo.{TrainNo}
use Rattle.rail_base.specs.declared.route.RouteNo.{RouteNo}
use Rattle.rail_base.specs.Routes.{route_at}
use Rattle.rail_course.specs.Tracks.{routes_at}
use Rattle.interlocking.specs.declared.railway.Interlocking.{Interlocking}
use Rattle.bound_spec.specs.declared.Leg.{Leg}
use Rattle.bound_spec.specs.Certificates.{ride_of}
use Rattle.bound_spec.specs.Rides.{release_place}
use Rattle.bound_spec.specs.Validity.{is_ahead}
use Rattle.bound_spec.specs.Walks.{walks}
use Rattle.bound_ticks.specs.declared.ahead.Between.{Between}
use Rattle.leg_targets.specs.Visits.{visit_of}

-- the place is not past where the walk has released what any of these routes waits for
abbrev pub all_past : Interlocking → TrainNo → List RouteNo → ℕ → List RouteNo → Bool
all_past i t walk place next =
    let rs = routes_at i.routes walk in
    list_all (λ s. nat_le place (release_place i.design.station t rs s)) (map (route_at i.routes) next)

-- on the walk the first visit's place is not past where the walk leads
abbrev pub ahead_on : Between → Leg → List Leg → List RouteNo → Bool
ahead_on b l ls walk = let i = b.interlocking.now in
    is_ahead i.design.station i.routes (visit_of b.from) (visit_of b.to) l ls (routes_at i.routes walk)

-- so on all walks of the leg
abbrev pub ahead_on_all : Between → Leg → List Leg → Bool
ahead_on_all b l ls = let i = b.interlocking.now in
    let test = is_ahead i.design.station i.routes (visit_of b.from) (visit_of b.to) l ls in
    list_all test (walks (ride_of i.routes l).places)
