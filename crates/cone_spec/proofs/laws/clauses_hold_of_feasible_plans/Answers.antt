use Rattle.cone_spec.proofs.Refusing.{true_of_feasible, timed_of}
use Rattle.cone_spec.proofs.laws.clauses_hold_of_feasible_plans.Goals as goal

pub returns : goal.returns
returns c = λ d admitted n plan f k valid. true_of_feasible d n k plan (timed_of d admitted) f valid
