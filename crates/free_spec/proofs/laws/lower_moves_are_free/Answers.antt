use Rattle.free_spec.proofs.Lower.{lower}
use Rattle.free_spec.proofs.laws.lower_moves_are_free.Goals as goal

pub returns : goal.returns
returns c = λ m ss end slows rest x u w. lower m ss end rest x u w slows
