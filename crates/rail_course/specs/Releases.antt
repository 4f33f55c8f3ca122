-- When a train has released the sections that it goes over.
use Rattle.std.specs.Prelude.{◌≡◌, ◌++◌, List, map, flat_map, Vec}
use Rattle.rail_base.specs.declared.station.Station.{Station}
use Rattle.rail_base.specs.declared.station.SectionNo.{SectionNo}
use Rattle.rail_base.specs.declared.station.TrainNo.{TrainNo}
use Rattle.rail_base.specs.declared.route.Route.{Route}
use Rattle.rail_base.specs.declared.route.RouteNo.{RouteNo}
use Rattle.rail_base.specs.declared.plan.Command.{Command}
use Rattle.rail_base.specs.Routes.{route_at, own_sections}
use Rattle.rail_spec.specs.Dispatches.{Dispatch, release}
use Rattle.rail_course.specs.declared.journey.Release.{Release}
use Rattle.std.specs.declared.alloc.Global.{Global}

module _ (d : Station) (routes : List Route) (p : Dispatch) where
  -- how a command releases one of its own sections
  abbrev pub release_for : Command → SectionNo → Release
  release_for c z = record { route = c.route; section = z; event = (release d routes p c z).event }

  -- the releases of one route of a train's path
  abbrev pub releases_of_route : TrainNo → RouteNo → List Release
  releases_of_route t r = map (release_for (record { train = t; route = r })) (own_sections (route_at routes r))

  -- those of all its routes
  abbrev pub releases_of_train : TrainNo → List Release
  releases_of_train t = flat_map (releases_of_route t) (p.path t)

-- these releases are added
abbrev pub AddsReleases : Vec Release Global → Vec Release Global → List Release → Type 0
AddsReleases before after more = after.items ≡ before.items ++ more
