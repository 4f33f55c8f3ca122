use Rattle.design_cli.proofs.Comparing.{prints_where_routes_are_listed}
use Rattle.design_cli.proofs.laws.prints_where_routes_are_listed.Goals as goal

pub returns : goal.returns
returns c = prints_where_routes_are_listed
