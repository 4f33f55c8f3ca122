use Rattle.rail_words.proofs.Timed.{tightest_read}
use Rattle.rail_words.proofs.laws.tightest_is_read.Goals as goal

pub returns : goal.returns
returns c = tightest_read
