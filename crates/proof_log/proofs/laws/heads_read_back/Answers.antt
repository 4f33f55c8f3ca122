use Rattle.proof_log.proofs.Heads.{read-back}
use Rattle.proof_log.proofs.laws.heads_read_back.Goals as goal

pub returns : goal.returns
returns c = read-back c.numbers_read_back.ensures
