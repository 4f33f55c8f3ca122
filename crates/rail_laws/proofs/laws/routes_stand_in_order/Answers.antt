use Rattle.rail_laws.proofs.RouteLaws.{routes_rise, routes_differ}
use Rattle.rail_laws.proofs.laws.routes_stand_in_order.Goals as goal

pub returns-clause-in_order : goal.returns-clause-in_order
returns-clause-in_order c = routes_rise

pub returns-clause-each_once : goal.returns-clause-each_once
returns-clause-each_once c = routes_differ
