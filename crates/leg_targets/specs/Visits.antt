-- Visits as the definitions have them.
use Rattle.std.specs.Prelude.{Option, option_map, ℕ, List}
use Rattle.bound_spec.specs.Certificates.{VisitOf, target, visit_place}
use Rattle.leg_targets.specs.declared.targets.Visit.{Visit}
use Rattle.rail_base.specs.declared.station.TrainNo.{TrainNo}
use Rattle.rail_base.specs.declared.route.RouteNo.{RouteNo}
use Rattle.rail_base.specs.Routes.{route_at}
use Rattle.rail_course.specs.Tracks.{routes_at}
use Rattle.interlocking.specs.declared.railway.Interlocking.{Interlocking}
use Rattle.bound_spec.specs.Rides.{release_place}

-- the visit of a train
abbrev pub visit_of : Visit → VisitOf
visit_of v = record { train = v.train; number = v.number }

-- the visit from which ticks are counted, if there is one
abbrev pub origin_of : Option Visit → Option VisitOf
origin_of from = option_map visit_of from

module _ (i : Interlocking) where
  -- where the train has released on a walk what the next route waits for
  abbrev pub release_on : TrainNo → List RouteNo → RouteNo → ℕ
  release_on train walk next =
      release_place i.design.station train (routes_at i.routes walk) (route_at i.routes next)

  -- where a visit can be made on a walk, at the latest that it counts
  abbrev pub target_on : Visit → List RouteNo → ℕ
  target_on visit walk = target i.design.station (visit_of visit) (routes_at i.routes walk)

  -- where it is made at the earliest
  abbrev pub visit_place_on : Visit → List RouteNo → ℕ
  visit_place_on visit walk = visit_place i.design.station (visit_of visit) (routes_at i.routes walk)
