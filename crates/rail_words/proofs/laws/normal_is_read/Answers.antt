use Rattle.rail_words.proofs.Taken.{normal_read}
use Rattle.rail_words.proofs.laws.normal_is_read.Goals as goal

pub returns : goal.returns
returns c = normal_read
