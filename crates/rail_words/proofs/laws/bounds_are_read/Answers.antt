use Rattle.rail_words.proofs.Taken.{bounds_read}
use Rattle.rail_words.proofs.laws.bounds_are_read.Goals as goal

pub returns : goal.returns
returns c = bounds_read
