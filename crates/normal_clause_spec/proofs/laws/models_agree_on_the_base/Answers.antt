use Rattle.normal_clause_spec.proofs.Values.{on_base}
use Rattle.normal_clause_spec.proofs.laws.models_agree_on_the_base.Goals as goal

pub returns : goal.returns
returns c = on_base
