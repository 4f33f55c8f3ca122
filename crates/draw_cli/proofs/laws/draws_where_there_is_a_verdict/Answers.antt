use Rattle.draw_cli.proofs.Comparing.{draws_where_there_is_a_verdict}
use Rattle.draw_cli.proofs.laws.draws_where_there_is_a_verdict.Goals as goal

pub returns : goal.returns
returns c = draws_where_there_is_a_verdict
