use Rattle.rail_plan.proofs.Standing.{free_of_executable, executable_of_free}
use Rattle.rail_plan.proofs.laws.plans_are_executable_where_nothing_is_blocked.Goals as goal

pub returns : goal.returns
returns c = λ d routes plan named. (free_of_executable d routes plan, executable_of_free d routes plan named)
