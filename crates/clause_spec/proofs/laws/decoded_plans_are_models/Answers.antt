use Rattle.clause_spec.proofs.DecodedModels.{retold}
use Rattle.clause_spec.proofs.laws.decoded_plans_are_models.Goals as goal

pub returns : goal.returns
returns c = λ d routes n some values holds. retold d routes n values holds some
