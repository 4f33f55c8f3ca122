use Rattle.normal_clause_spec.proofs.InRange.{normal_in_range}
use Rattle.normal_clause_spec.proofs.laws.normal_literals_are_in_range.Goals as goal

pub returns : goal.returns
returns c = normal_in_range
