use Rattle.slice_spec.proofs.Alone.{slices_alone}
use Rattle.slice_spec.proofs.laws.slices_are_one.Goals as goal

pub returns : goal.returns
returns c = slices_alone
