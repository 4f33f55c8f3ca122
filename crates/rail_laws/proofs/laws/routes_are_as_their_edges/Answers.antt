use Rattle.rail_laws.proofs.AsEdges.{told}
use Rattle.rail_laws.proofs.laws.routes_are_as_their_edges.Goals as goal

pub returns : goal.returns
returns c = told
