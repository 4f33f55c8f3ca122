use Rattle.slice_spec.proofs.Closing.{last_closed}
use Rattle.slice_spec.proofs.laws.the_last_tick_is_closed.Goals as goal

pub returns : goal.returns
returns c = last_closed
