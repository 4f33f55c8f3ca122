use Rattle.draw_cli.proofs.Comparing.{draws_where_routes_are_listed}
use Rattle.draw_cli.proofs.laws.draws_where_routes_are_listed.Goals as goal

pub returns : goal.returns
returns c = draws_where_routes_are_listed
