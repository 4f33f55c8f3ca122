use Rattle.cone_spec.proofs.Refusing.{refused, timed_of}
use Rattle.cone_spec.proofs.laws.such_a_plan_fails.Goals as goal

pub returns : goal.returns
returns c = λ d routes n k plan r admitted. refused d routes n k plan r (timed_of d admitted)
