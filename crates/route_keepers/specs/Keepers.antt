-- The routes that can keep a train from a section of each route.
use Rattle.std.specs.Prelude.{List, filter, map}
use Rattle.rail_base.specs.declared.route.Route.{Route}
use Rattle.rail_base.specs.declared.route.RouteNo.{RouteNo}
use Rattle.rail_spec.specs.Plans.{route_numbers}
use Rattle.normal_clause_spec.specs.Clauses.{can_keep}

-- those to which a chain leads from a route that shares a section with it
abbrev pub keepers_of : List Route → RouteNo → List RouteNo
keepers_of routes r = filter (can_keep routes r) (route_numbers routes)

-- for each route
abbrev pub all_keepers : List Route → List (List RouteNo)
all_keepers routes = map (keepers_of routes) (route_numbers routes)
