use Rattle.rail_words.proofs.Taken.{check_read}
use Rattle.rail_words.proofs.laws.check_is_read.Goals as goal

pub returns : goal.returns
returns c = check_read
