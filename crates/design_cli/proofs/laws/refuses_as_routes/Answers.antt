use Rattle.design_cli.proofs.Comparing.{refuses_as_routes}
use Rattle.design_cli.proofs.laws.refuses_as_routes.Goals as goal

pub returns : goal.returns
returns c = refuses_as_routes
