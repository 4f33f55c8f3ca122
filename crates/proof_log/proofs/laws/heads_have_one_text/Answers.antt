use Rattle.proof_log.proofs.Heads.{one-text}
use Rattle.proof_log.proofs.laws.heads_have_one_text.Goals as goal

pub returns : goal.returns
returns c = one-text
