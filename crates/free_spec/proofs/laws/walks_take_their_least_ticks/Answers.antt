use Rattle.free_spec.proofs.Moves.{takes}
use Rattle.free_spec.proofs.laws.walks_take_their_least_ticks.Goals as goal

pub returns : goal.returns
returns c d adm n plan well = takes d adm n plan well.formed
