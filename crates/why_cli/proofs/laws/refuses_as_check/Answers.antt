use Rattle.why_cli.proofs.Checking.{refuses_as_check}
use Rattle.why_cli.proofs.laws.refuses_as_check.Goals as goal

pub returns : goal.returns
returns c = refuses_as_check
