use Rattle.rail_alike.proofs.Next.{all_come_in_turn}
use Rattle.rail_alike.proofs.laws.all_alike_come_in_turn.Goals as goal

pub returns : goal.returns
returns c = all_come_in_turn
