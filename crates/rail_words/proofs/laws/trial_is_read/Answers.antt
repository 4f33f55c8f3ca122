use Rattle.rail_words.proofs.Taken.{trial_read}
use Rattle.rail_words.proofs.laws.trial_is_read.Goals as goal

pub returns : goal.returns
returns c = trial_read
