use Rattle.std.proofs.Common.{ap}
use Rattle.bound_spec.specs.declared.Leg.{Leg}
use Rattle.bound_spec.proofs.Ending.{last_of_legs}
use Rattle.bound_spec.proofs.legs.last_train.Goals as goal

pub returns-in-Some : goal.returns-in-Some
returns-in-Some c = ap (λ (l : Leg). l.train) (last_of_legs c.args.legs.now c.in-Some.leg.now c.in-Some.ensures.value)
