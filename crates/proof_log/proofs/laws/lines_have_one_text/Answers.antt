use Rattle.proof_log.proofs.OneText.{one-text}
use Rattle.proof_log.proofs.laws.lines_have_one_text.Goals as goal

pub returns : goal.returns
returns c = one-text
