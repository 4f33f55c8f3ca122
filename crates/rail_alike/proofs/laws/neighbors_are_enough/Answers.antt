use Rattle.rail_alike.proofs.Next.{neighbors_exactly, neighbors_alike, all_in_turn}
use Rattle.rail_alike.proofs.laws.neighbors_are_enough.Goals as goal

pub returns-clause-exactly : goal.returns-clause-exactly
returns-clause-exactly c = neighbors_exactly

pub returns-clause-pairs : goal.returns-clause-pairs
returns-clause-pairs c = neighbors_alike

pub returns-clause-all : goal.returns-clause-all
returns-clause-all c = all_in_turn
