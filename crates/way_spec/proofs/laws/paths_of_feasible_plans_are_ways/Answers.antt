use Rattle.way_spec.proofs.Paths.{paths_are_ways, commands_are_live, visiting}
use Rattle.way_spec.proofs.laws.paths_of_feasible_plans_are_ways.Goals as goal

pub returns-clause-paths : goal.returns-clause-paths
returns-clause-paths c = paths_are_ways

pub returns-clause-live : goal.returns-clause-live
returns-clause-live c = commands_are_live

pub returns-clause-visiting : goal.returns-clause-visiting
returns-clause-visiting c = visiting
