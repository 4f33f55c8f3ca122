-- To which routes chains lead, by graphs whose nodes are the routes, numbered from 0.
use Rattle.std.specs.Prelude.{ℕ, ◌-◌, Bool, not, List, filter, map}
use Rattle.rail_base.specs.declared.route.Route.{Route}
use Rattle.rail_base.specs.declared.route.RouteNo.{RouteNo}
use Rattle.rail_spec.specs.Plans.{goes_on, is_start, route_at, route_numbers}
use Rattle.normal_clause_spec.specs.Clauses.{leads_to}

module _ (routes : List Route) where
  -- the routes that go on where this one ends
  abbrev pub going_on : RouteNo → List RouteNo
  going_on r = filter (λ q. goes_on (route_at routes r).finish (route_at routes q).start) (route_numbers routes)

  -- those of each route
  abbrev pub all_going_on : List (List RouteNo)
  all_going_on = map going_on (route_numbers routes)

  -- the two start at different places
  abbrev pub start_apart : RouteNo → RouteNo → Bool
  start_apart v q = not (is_start (route_at routes v).start (route_at routes q).start)

  -- the nodes of those of these routes that don't start where v does
  abbrev pub nodes_apart : RouteNo → List RouteNo → List ℕ
  nodes_apart v qs = map (λ q. q.0 - 1) (filter (start_apart v) qs)

  -- the graph of the steps that come to no route with the start of v
  abbrev pub graph_from : RouteNo → List (List ℕ)
  graph_from v = map (nodes_apart v) all_going_on

  -- of each route whether a chain leads to it from v
  abbrev pub chain_row : RouteNo → List Bool
  chain_row v = map (leads_to routes v) (route_numbers routes)

  -- that row of each route
  abbrev pub chain_rows : List (List Bool)
  chain_rows = map chain_row (route_numbers routes)
