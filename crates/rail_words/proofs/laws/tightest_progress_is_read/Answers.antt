use Rattle.rail_words.proofs.Timed.{tightest_progress_read}
use Rattle.rail_words.proofs.laws.tightest_progress_is_read.Goals as goal

pub returns : goal.returns
returns c = tightest_progress_read
