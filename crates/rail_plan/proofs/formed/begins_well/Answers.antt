use Rattle.rail_plan.proofs.Named.{last_is_route}
use Rattle.rail_plan.proofs.formed.begins_well.Goals as goal

pub route_at-requires : goal.route_at-requires
route_at-requires c = last_is_route c.args.interlocking.now.routes c.args.before.now c.args.train c.in-Some.last c.requires.named c.in-Some.ensures
