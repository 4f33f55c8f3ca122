use Rattle.slice_spec.proofs.Alone.{least_alone}
use Rattle.slice_spec.proofs.laws.least_horizons_are_one.Goals as goal

pub returns : goal.returns
returns c = least_alone
