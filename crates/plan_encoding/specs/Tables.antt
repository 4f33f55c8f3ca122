-- How routes are related.
use Rattle.std.specs.Prelude.{Bool, List, filter, map}
use Rattle.rail_base.specs.declared.route.Route.{Route}
use Rattle.rail_base.specs.declared.route.RouteNo.{RouteNo}
use Rattle.rail_base.specs.Routes.{IsRoute}
use Rattle.rail_spec.specs.Plans.{goes_on, route_at, route_numbers}
use Rattle.clause_spec.specs.Clauses.{exclude, later_pairs, leading_to}

-- the routes that go on where this one ends
abbrev pub going_on : List Route → RouteNo → List RouteNo
going_on routes r = filter (λ q. goes_on (route_at routes r).finish (route_at routes q).start) (route_numbers routes)

-- the routes that end where this one starts
abbrev pub leading : List Route → RouteNo → List RouteNo
leading routes r = leading_to routes (route_at routes r).start

-- the two routes of a pair exclude each other
abbrev pub exclude_both : List Route → RouteNo × RouteNo → Bool
exclude_both routes p = exclude (route_at routes p.0) (route_at routes p.1)

-- each two routes that exclude each other
abbrev pub exclusions : List Route → List (RouteNo × RouteNo)
exclusions routes = filter (exclude_both routes) (later_pairs (route_numbers routes))

-- for each route the row of others that stand so to it
abbrev pub rows_by : (List Route → RouteNo → List RouteNo) → List Route → List (List RouteNo)
rows_by relation routes = map (relation routes) (route_numbers routes)

-- both have numbers of the table
abbrev pub ArePairs : List Route → RouteNo × RouteNo → Type 0
ArePairs routes p = IsRoute routes p.0 × IsRoute routes p.1
