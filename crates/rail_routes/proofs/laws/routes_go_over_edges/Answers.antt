use Rattle.rail_laws.proofs.Small.{short_route}
use Rattle.rail_routes.proofs.Tables.{route_edge}
use Rattle.rail_routes.proofs.laws.routes_go_over_edges.Goals as goal

pub returns-clause-edges : goal.returns-clause-edges
returns-clause-edges c = route_edge

pub returns-clause-at_most_40_km : goal.returns-clause-at_most_40_km
returns-clause-at_most_40_km c = short_route
