use Rattle.rail_alike.proofs.Beside.{beside_exactly, beside_alike, beside_same}
use Rattle.rail_alike.proofs.laws.neighbors_beside_a_within.Goals as goal

pub returns-clause-exactly : goal.returns-clause-exactly
returns-clause-exactly c = beside_exactly

pub returns-clause-pairs : goal.returns-clause-pairs
returns-clause-pairs c = beside_alike

pub returns-clause-same : goal.returns-clause-same
returns-clause-same c = beside_same
