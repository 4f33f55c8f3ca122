use Rattle.free_spec.proofs.Lower.{stuck}
use Rattle.free_spec.proofs.laws.no_steps_go_on_from_a_stop.Goals as goal

pub returns : goal.returns
returns c = stuck
