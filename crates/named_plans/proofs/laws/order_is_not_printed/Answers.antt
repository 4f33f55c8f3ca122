use Rattle.named_plans.proofs.Again.{same_named, same_numbers}
use Rattle.named_plans.proofs.laws.order_is_not_printed.Goals as goal

pub returns : goal.returns
returns c = λ d plan. (same_named d plan, same_numbers d plan)
