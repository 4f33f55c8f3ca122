use Rattle.rail_laws.proofs.Admits.{sound}
use Rattle.rail_laws.proofs.dwells.plans_are_orderly.Goals as goal

pub returns : goal.returns
returns c = sound
