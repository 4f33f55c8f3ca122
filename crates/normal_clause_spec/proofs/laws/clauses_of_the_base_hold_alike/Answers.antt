use Rattle.normal_clause_spec.proofs.Values.{alike_on_base}
use Rattle.normal_clause_spec.proofs.laws.clauses_of_the_base_hold_alike.Goals as goal

pub returns : goal.returns
returns c = alike_on_base
