use Rattle.rail_plan.proofs.WellFormed.{formed_where_none}
use Rattle.rail_plan.proofs.laws.plans_are_well_formed_where_nothing_is_misplaced.Goals as goal

pub returns : goal.returns
returns c = λ d routes plan named n. formed_where_none d routes plan named n
