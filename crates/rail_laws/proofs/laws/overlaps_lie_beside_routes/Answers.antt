use Rattle.rail_laws.proofs.Beside.{beside}
use Rattle.rail_laws.proofs.laws.overlaps_lie_beside_routes.Goals as goal

pub returns : goal.returns
returns c = beside
