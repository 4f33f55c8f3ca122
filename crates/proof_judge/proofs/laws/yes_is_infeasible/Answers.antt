use Rattle.proof_judge.proofs.Sound.{yes_infeasible}
use Rattle.proof_judge.proofs.laws.yes_is_infeasible.Goals as goal

pub returns : goal.returns
returns c = yes_infeasible
