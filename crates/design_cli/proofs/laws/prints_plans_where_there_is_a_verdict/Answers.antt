use Rattle.design_cli.proofs.Comparing.{prints_plans_where_there_is_a_verdict}
use Rattle.design_cli.proofs.laws.prints_plans_where_there_is_a_verdict.Goals as goal

pub returns : goal.returns
returns c = prints_plans_where_there_is_a_verdict
