use Rattle.rail_laws.proofs.Stops.{stands_in_order}
use Rattle.rail_laws.proofs.dwells.visits_are_stood_in_order.Goals as goal

pub returns : goal.returns
returns c = stands_in_order
