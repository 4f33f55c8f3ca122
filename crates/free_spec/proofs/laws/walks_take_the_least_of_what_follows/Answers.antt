use Rattle.free_spec.proofs.Following.{whatever_follows}
use Rattle.free_spec.proofs.laws.walks_take_the_least_of_what_follows.Goals as goal

pub returns : goal.returns
returns c = whatever_follows
