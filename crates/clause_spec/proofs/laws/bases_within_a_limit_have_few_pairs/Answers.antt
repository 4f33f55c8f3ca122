use Rattle.clause_spec.proofs.Few.{few_pairs}
use Rattle.clause_spec.proofs.laws.bases_within_a_limit_have_few_pairs.Goals as goal

pub returns : goal.returns
returns c = few_pairs
