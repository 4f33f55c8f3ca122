use Rattle.cone_words.proofs.So.{cones_deny}
use Rattle.cone_words.proofs.laws.sentences_of_cones_deny.Goals as goal

pub returns : goal.returns
returns c = cones_deny
