use Rattle.outcome_words.proofs.Waited.{waits_so}
use Rattle.outcome_words.proofs.laws.waits_are_so.Goals as goal

pub returns : goal.returns
returns c = waits_so
