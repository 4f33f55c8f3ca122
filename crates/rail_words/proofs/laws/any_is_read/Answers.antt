use Rattle.rail_words.proofs.Taken.{any_read}
use Rattle.rail_words.proofs.laws.any_is_read.Goals as goal

pub returns : goal.returns
returns c = any_read
