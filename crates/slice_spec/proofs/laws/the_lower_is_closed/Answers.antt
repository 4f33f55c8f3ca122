use Rattle.slice_spec.proofs.Closing.{lower_closed}
use Rattle.slice_spec.proofs.laws.the_lower_is_closed.Goals as goal

pub returns : goal.returns
returns c = lower_closed
