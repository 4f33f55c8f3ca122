use Rattle.command_set.proofs.Tests.{all_are_a_set, all_named, all_pairs_are}
use Rattle.command_set.proofs.laws.all_commands_are_a_set.Goals as goal

pub returns-clause-set : goal.returns-clause-set
returns-clause-set c = all_are_a_set

pub returns-clause-pairs : goal.returns-clause-pairs
returns-clause-pairs c = all_pairs_are

pub returns-clause-named : goal.returns-clause-named
returns-clause-named c = all_named
