-- The routes that share a section with one.
use Rattle.std.specs.Prelude.{List, filter}
use Rattle.rail_base.specs.declared.route.Route.{Route}
use Rattle.rail_base.specs.declared.route.RouteNo.{RouteNo}
use Rattle.rail_spec.specs.Plans.{route_at, route_numbers, share}

-- those that share a section with r
abbrev pub sharing : List Route → RouteNo → List RouteNo
sharing routes r = filter (λ v. share (route_at routes v) (route_at routes r)) (route_numbers routes)
