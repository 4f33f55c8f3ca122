use Rattle.command_set.proofs.Tests.{are_sets, bases_alike, pairs_alike, tells_alike}
use Rattle.command_set.proofs.laws.sets_are_tests.Goals as goal

pub returns-clause-sets : goal.returns-clause-sets
returns-clause-sets c = are_sets

pub returns-clause-tells : goal.returns-clause-tells
returns-clause-tells c = tells_alike

pub returns-clause-pairs : goal.returns-clause-pairs
returns-clause-pairs c = pairs_alike

pub returns-clause-bases : goal.returns-clause-bases
returns-clause-bases c = λ turns live d routes n. bases_alike live d routes n turns
