use Rattle.rail_laws.proofs.Small.{short_route, short_path, stays_small}
use Rattle.rail_laws.proofs.laws.numbers_stay_small.Goals as goal

pub returns-clause-routes : goal.returns-clause-routes
returns-clause-routes c = short_route

pub returns-clause-paths : goal.returns-clause-paths
returns-clause-paths c = short_path

pub returns-clause-states : goal.returns-clause-states
returns-clause-states c = λ d routes plan adm k t. let s = stays_small d adm routes plan k t in (s.x, s.v)
