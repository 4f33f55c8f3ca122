use Rattle.why_cli.proofs.Checking.{heads_name_steps}
use Rattle.why_cli.proofs.laws.heads_name_steps.Goals as goal

pub returns : goal.returns
returns c = heads_name_steps
