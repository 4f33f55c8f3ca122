use Rattle.limit_words.proofs.Growing.{grow_evenly}
use Rattle.limit_words.proofs.laws.literals_grow_evenly.Goals as goal

pub returns : goal.returns
returns c = grow_evenly
