use Rattle.rail_laws.proofs.Moving.{permitted_one}
use Rattle.rail_laws.proofs.laws.trains_move_where_they_may.Goals as goal

pub returns : goal.returns
returns c = λ m ss end slows x v gains. permitted_one m ss end x v gains slows
