use Rattle.rail_laws.proofs.Exclusion.{holds_apart}
use Rattle.rail_laws.proofs.laws.holders_are_apart.Goals as goal

pub returns : goal.returns
returns c = holds_apart
