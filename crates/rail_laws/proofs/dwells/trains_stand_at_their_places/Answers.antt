use Rattle.rail_laws.proofs.Authority.{stands_at_place}
use Rattle.rail_laws.proofs.dwells.trains_stand_at_their_places.Goals as goal

pub returns : goal.returns
returns c = stands_at_place
