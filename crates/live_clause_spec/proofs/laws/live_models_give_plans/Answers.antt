use Rattle.live_clause_spec.proofs.Decoding.{decoded_alike}
use Rattle.live_clause_spec.proofs.Shown.{give_plans}
use Rattle.live_clause_spec.proofs.laws.live_models_give_plans.Goals as goal

pub returns-clause-plans : goal.returns-clause-plans
returns-clause-plans c = give_plans

pub returns-clause-decoded : goal.returns-clause-decoded
returns-clause-decoded c = λ live d routes n some. decoded_alike live d routes n
