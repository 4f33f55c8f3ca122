use Rattle.rail_words.proofs.Timed.{in_time_read}
use Rattle.rail_words.proofs.laws.check_in_time_is_read.Goals as goal

pub returns : goal.returns
returns c = in_time_read
