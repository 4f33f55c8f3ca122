use Rattle.clause_spec.proofs.InRange.{literals_in_range}
use Rattle.clause_spec.proofs.laws.literals_are_in_range.Goals as goal

pub returns : goal.returns
returns c = literals_in_range
