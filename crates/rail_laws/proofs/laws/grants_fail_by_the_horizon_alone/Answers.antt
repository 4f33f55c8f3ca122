use Rattle.rail_laws.proofs.Lively.{late_grant}
use Rattle.rail_laws.proofs.laws.grants_fail_by_the_horizon_alone.Goals as goal

pub returns : goal.returns
returns c = late_grant
