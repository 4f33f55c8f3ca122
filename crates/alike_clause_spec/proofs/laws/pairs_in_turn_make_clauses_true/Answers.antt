use Rattle.alike_clause_spec.proofs.Holding.{turns_hold}
use Rattle.alike_clause_spec.proofs.laws.pairs_in_turn_make_clauses_true.Goals as goal

pub returns : goal.returns
returns c = turns_hold
