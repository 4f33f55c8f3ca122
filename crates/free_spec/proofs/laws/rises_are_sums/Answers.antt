use Rattle.free_spec.proofs.Lower.{rise_is}
use Rattle.free_spec.proofs.laws.rises_are_sums.Goals as goal

pub returns : goal.returns
returns c = rise_is
