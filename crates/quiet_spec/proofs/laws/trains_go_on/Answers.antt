use Rattle.quiet_spec.proofs.Drifting.{states_go_on}
use Rattle.quiet_spec.proofs.laws.trains_go_on.Goals as goal

pub returns : goal.returns
returns c = states_go_on
