use Rattle.rail_laws.proofs.KeptFree.{stay_free}
use Rattle.rail_laws.proofs.overlaps.overlaps_stay_free.Goals as goal

pub returns : goal.returns
returns c = stay_free
