use Rattle.free_spec.proofs.Moves.{one_tick}
use Rattle.free_spec.proofs.laws.moves_are_free.Goals as goal

pub returns : goal.returns
returns c d adm n plan well = one_tick d adm n plan well.formed
