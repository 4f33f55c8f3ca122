use Rattle.rail_words.proofs.Taken.{routes_read}
use Rattle.rail_words.proofs.laws.routes_is_read.Goals as goal

pub returns : goal.returns
returns c = routes_read
