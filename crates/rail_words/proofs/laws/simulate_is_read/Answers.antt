use Rattle.rail_words.proofs.Taken.{simulate_read}
use Rattle.rail_words.proofs.laws.simulate_is_read.Goals as goal

pub returns : goal.returns
returns c = simulate_read
