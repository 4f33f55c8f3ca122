use Rattle.why_cli.proofs.Checking.{explains_where_yes}
use Rattle.why_cli.proofs.laws.explains_where_yes.Goals as goal

pub returns : goal.returns
returns c = explains_where_yes
