use Rattle.std.proofs.Common.{◌≡◌, drop}
use Rattle.std.specs.Option.{option_or}
use Rattle.rail_plan.specs.WellFormed.{last_of_list}
use Rattle.plan_ways.proofs.routes.last_of.Given as goal

abbrev pub invariant-loop-route : goal.invariant-loop-route
invariant-loop-route l = option_or (last_of_list (drop l.route-index l.routes)) l.last ≡ last_of_list l.routes
