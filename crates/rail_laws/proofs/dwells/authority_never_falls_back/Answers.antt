use Rattle.rail_laws.proofs.Authority.{authority_grows}
use Rattle.rail_laws.proofs.dwells.authority_never_falls_back.Goals as goal

pub returns : goal.returns
returns c = authority_grows
