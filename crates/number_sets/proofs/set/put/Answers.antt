use Rattle.number_sets.proofs.Words.{put_is}
use Rattle.number_sets.proofs.set.put.Goals as goal

pub returns : goal.returns
returns c = put_is c.args.words.now c.args.number c.requires
