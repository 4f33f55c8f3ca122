use Rattle.rail_laws.proofs.Authority.{waits_at_place, stands_at_visit}
use Rattle.rail_laws.proofs.dwells.trains_wait_at_their_places.Goals as goal

pub returns-clause-place : goal.returns-clause-place
returns-clause-place c = waits_at_place

pub returns-clause-visits : goal.returns-clause-visits
returns-clause-visits c = stands_at_visit
