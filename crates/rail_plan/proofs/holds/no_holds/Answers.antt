use Rattle.std.proofs.lemmas.List.{length-replicate}
use Rattle.rail_plan.specs.Holds.{no_hold}
use Rattle.rail_plan.proofs.Taking.{entry_alike}
use Rattle.rail_plan.proofs.holds.no_holds.Goals as goal

pub returns-clause-count : goal.returns-clause-count
returns-clause-count c = length-replicate 4000 no_hold

pub returns-clause-none : goal.returns-clause-none
returns-clause-none c = λ z. entry_alike 4000 z.0
