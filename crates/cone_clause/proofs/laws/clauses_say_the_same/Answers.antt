use Rattle.cone_clause.proofs.Agreeing.{clause_alike}
use Rattle.cone_clause.proofs.laws.clauses_say_the_same.Goals as goal
use Rattle.clause_spec.proofs.Shown.{short_enough}

pub returns : goal.returns
returns c = λ d routes n plan formed some k fits. clause_alike d routes n some plan (short_enough d routes n plan formed.formed) k fits
