use Rattle.plan_faults.proofs.Refused.{blocked_has_keeper}
use Rattle.plan_faults.proofs.laws.blocked_commands_have_keepers.Goals as goal

pub returns : goal.returns
returns c = λ d routes plan. blocked_has_keeper d routes plan
