use Rattle.rail_words.proofs.Timed.{tightest_bounds_read}
use Rattle.rail_words.proofs.laws.tightest_bounds_are_read.Goals as goal

pub returns : goal.returns
returns c = tightest_bounds_read
