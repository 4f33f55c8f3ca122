use Rattle.std.proofs.Common.{arith, rules}
use Rattle.rail_base.specs.Stations.{train_of}
use Rattle.rail_spec.specs.Plans.{route_at, routes_given, path_routes}
use Rattle.rail_plan.proofs.Named.{first_is_route}
use Rattle.rail_plan.proofs.Placed.{placed_more}
use Rattle.rail_plan.proofs.formed.is_placed.Goals as goal

pub route_at-requires : goal.route_at-requires
route_at-requires c = first_is_route c.args.interlocking.now.routes c.args.step.now c.args.train c.in-Some.route c.requires.step c.in-Some.ensures

pub returns-else-count_given-eq1 : goal.returns-else-count_given-eq1
returns-else-count_given-eq1 c =
    let more = placed_more (train_of c.args.interlocking.now.design.station c.args.train) (path_routes c.args.interlocking.now.routes c.args.before.now c.args.train) (route_at c.args.interlocking.now.routes) (routes_given c.args.train c.args.step.now) c.in-Some.route c.in-Some.ensures (λ n. omega (arith, c.count_given.ensures)) in
    search (rules, more)
