use Rattle.alike_clause_spec.proofs.InRange.{sorted_in_range}
use Rattle.alike_clause_spec.proofs.laws.sorted_literals_are_in_range.Goals as goal

pub returns : goal.returns
returns c = λ turns d routes n. sorted_in_range d routes n turns
