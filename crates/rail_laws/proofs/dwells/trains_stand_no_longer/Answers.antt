use Rattle.rail_laws.proofs.Authority.{stands_no_longer}
use Rattle.rail_laws.proofs.dwells.trains_stand_no_longer.Goals as goal

pub returns : goal.returns
returns c = stands_no_longer
