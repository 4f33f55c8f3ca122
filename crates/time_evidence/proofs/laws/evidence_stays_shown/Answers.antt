use Rattle.time_evidence.proofs.LessTime.{evidence_stays}
use Rattle.time_evidence.proofs.laws.evidence_stays_shown.Goals as goal

pub returns : goal.returns
returns c = evidence_stays
