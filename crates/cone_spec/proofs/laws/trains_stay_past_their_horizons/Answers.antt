use Rattle.cone_spec.proofs.Orderly.{stays_past_horizon}
use Rattle.cone_spec.proofs.laws.trains_stay_past_their_horizons.Goals as goal

pub returns : goal.returns
returns c = stays_past_horizon
