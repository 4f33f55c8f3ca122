use Rattle.plan_faults.proofs.Refused.{misplaced_has_reason}
use Rattle.plan_faults.proofs.laws.misplaced_commands_have_reasons.Goals as goal

pub returns : goal.returns
returns c = λ d routes plan. misplaced_has_reason d routes plan
