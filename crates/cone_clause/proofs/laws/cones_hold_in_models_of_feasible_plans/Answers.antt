use Rattle.std.proofs.Common.{le_refl}
use Rattle.cone_spec.proofs.Refusing.{timed_of}
use Rattle.cone_clause.proofs.Agreeing.{holds_of_feasible}
use Rattle.cone_clause.proofs.laws.cones_hold_in_models_of_feasible_plans.Goals as goal

pub returns : goal.returns
returns c = λ d admitted n plan f some k valid. holds_of_feasible d n n k plan some (le_refl n) (timed_of d admitted) f valid
