use Rattle.free_spec.proofs.Waiting.{waited}
use Rattle.free_spec.proofs.laws.waiting_trains_take_their_least_ticks.Goals as goal

pub returns : goal.returns
returns c d adm n plan well t before l has named j k x y there short near = waited d adm n plan well.formed t before l has j k x y named there short near
