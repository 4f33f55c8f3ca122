use Rattle.live_clause_spec.proofs.Base.{base_of_plan, base_spread}
use Rattle.live_clause_spec.proofs.Shown.{models_say}
use Rattle.live_clause_spec.proofs.Spread.{model_spread}
use Rattle.live_clause_spec.proofs.laws.values_are_spread.Goals as goal

pub returns-clause-values : goal.returns-clause-values
returns-clause-values c = base_spread

pub returns-clause-models : goal.returns-clause-models
returns-clause-models c = λ live d routes n some. model_spread live d routes n

pub returns-clause-says : goal.returns-clause-says
returns-clause-says c = λ live d routes n some. models_say live d routes n

pub returns-clause-alike : goal.returns-clause-alike
returns-clause-alike c = base_of_plan
