use Rattle.std.proofs.Common.{arith}
use Rattle.rail_routes.proofs.Tables.{listed_all}
use Rattle.rail_routes.proofs.laws.listed_routes_are_at_most_2000.Goals as goal

pub returns-clause-all : goal.returns-clause-all
returns-clause-all c = listed_all

pub returns-clause-at_most_2000 : goal.returns-clause-at_most_2000
returns-clause-at_most_2000 c d l = let all = listed_all d l in let few = l.at_most_2000 in omega arith
