use Rattle.rail_words.proofs.Taken.{others_quiet}
use Rattle.rail_words.proofs.laws.others_are_quiet.Goals as goal

pub returns : goal.returns
returns c = others_quiet
