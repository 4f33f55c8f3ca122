use Rattle.rail_laws.proofs.Arrivals.{come_through}
use Rattle.rail_laws.proofs.laws.trains_come_through.Goals as goal

pub returns : goal.returns
returns c = come_through
