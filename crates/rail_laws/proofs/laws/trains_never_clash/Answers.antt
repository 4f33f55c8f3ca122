use Rattle.rail_laws.proofs.Admits.{never_clash}
use Rattle.rail_laws.proofs.laws.trains_never_clash.Goals as goal

pub returns : goal.returns
returns c = never_clash
