use Rattle.evidence_words.proofs.So.{sentences_deny}
use Rattle.evidence_words.proofs.laws.sentences_deny.Goals as goal

pub returns : goal.returns
returns c = sentences_deny
