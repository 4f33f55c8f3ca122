use Rattle.plan_exclusion.proofs.Denying.{evidence_denies}
use Rattle.plan_exclusion.proofs.laws.evidence_denies_its_plan.Goals as goal

pub returns : goal.returns
returns c = evidence_denies
