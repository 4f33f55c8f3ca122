use Rattle.base_spec.proofs.Ranges.{in_range_of}
use Rattle.base_spec.proofs.laws.literals_are_in_range_of_bases.Goals as goal

pub returns : goal.returns
returns c = in_range_of
