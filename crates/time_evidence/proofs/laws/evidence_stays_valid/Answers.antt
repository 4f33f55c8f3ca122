use Rattle.time_evidence.proofs.LessTime.{cones_stay, bounds_stay}
use Rattle.time_evidence.proofs.laws.evidence_stays_valid.Goals as goal

pub returns-clause-cones : goal.returns-clause-cones
returns-clause-cones c = cones_stay

pub returns-clause-bounds : goal.returns-clause-bounds
returns-clause-bounds c = bounds_stay
