use Rattle.rail_require.proofs.Numbered.{have_numbers, plans_have_numbers}
use Rattle.rail_require.proofs.laws.histories_have_numbers.Goals as goal

pub returns-clause-paths : goal.returns-clause-paths
returns-clause-paths c = have_numbers

pub returns-clause-plans : goal.returns-clause-plans
returns-clause-plans c = plans_have_numbers
