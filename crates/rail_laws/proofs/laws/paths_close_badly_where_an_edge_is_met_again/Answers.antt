use Rattle.rail_laws.proofs.BadWalk.{bad_exactly, closed_are_routes}
use Rattle.rail_laws.proofs.laws.paths_close_badly_where_an_edge_is_met_again.Goals as goal

pub returns-clause-again : goal.returns-clause-again
returns-clause-again c = bad_exactly

pub returns-clause-routes : goal.returns-clause-routes
returns-clause-routes c = closed_are_routes
