use Rattle.way_spec.proofs.Paths.{needs_ways, takes_fewest, takes_fewest_of_all}
use Rattle.way_spec.proofs.laws.plans_take_the_fewest_routes.Goals as goal

pub returns-clause-none : goal.returns-clause-none
returns-clause-none c = needs_ways

pub returns-clause-fewest : goal.returns-clause-fewest
returns-clause-fewest c = takes_fewest

pub returns-clause-of_all : goal.returns-clause-of_all
returns-clause-of_all c = takes_fewest_of_all
