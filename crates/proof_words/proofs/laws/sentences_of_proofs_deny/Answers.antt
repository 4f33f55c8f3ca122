use Rattle.proof_words.proofs.Naming.{proofs_deny}
use Rattle.proof_words.proofs.laws.sentences_of_proofs_deny.Goals as goal

pub returns : goal.returns
returns c = proofs_deny
