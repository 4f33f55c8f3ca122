use Rattle.base_spec.proofs.Staying.{clauses_stay}
use Rattle.base_spec.proofs.laws.bases_stay_beside_a_within.Goals as goal

pub returns-clause-clauses : goal.returns-clause-clauses
returns-clause-clauses c = clauses_stay
