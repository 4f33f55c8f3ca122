use Rattle.why_cli.proofs.Checking.{no_steps_is_usage}
use Rattle.why_cli.proofs.laws.no_steps_is_usage.Goals as goal

pub returns : goal.returns
returns c = no_steps_is_usage
