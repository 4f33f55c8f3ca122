use Rattle.why_cli.proofs.Checking.{says_digests}
use Rattle.why_cli.proofs.laws.says_digests.Goals as goal

pub returns : goal.returns
returns c = says_digests
