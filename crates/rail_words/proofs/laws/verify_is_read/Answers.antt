use Rattle.rail_words.proofs.Taken.{verify_read}
use Rattle.rail_words.proofs.laws.verify_is_read.Goals as goal

pub returns : goal.returns
returns c = verify_read
