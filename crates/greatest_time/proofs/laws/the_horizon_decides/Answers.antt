use Rattle.greatest_time.proofs.InTime.{horizon_decides}
use Rattle.greatest_time.proofs.laws.the_horizon_decides.Goals as goal

pub returns : goal.returns
returns c = horizon_decides
