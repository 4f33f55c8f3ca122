use Rattle.rail_words.proofs.Asks.{silence_has_a_cause}
use Rattle.rail_words.proofs.laws.silence_has_a_cause.Goals as goal

pub returns : goal.returns
returns c = silence_has_a_cause
