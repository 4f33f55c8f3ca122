use Rattle.rail_words.proofs.Taken.{progress_read}
use Rattle.rail_words.proofs.laws.progress_is_read.Goals as goal

pub returns : goal.returns
returns c = progress_read
