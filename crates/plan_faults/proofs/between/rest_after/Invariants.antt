use Rattle.std.proofs.Common.{◌≡◌, drop, map}
use Rattle.rail_base.specs.declared.plan.Command.{Command}
use Rattle.rail_base.specs.Routes.{route_at}
use Rattle.rail_plan.specs.Holds.{rest_after}
use Rattle.plan_faults.proofs.between.rest_after.Given as goal

abbrev pub invariant-loop-command : goal.invariant-loop-command
invariant-loop-command l = rest_after l.left (map (λ (g : Command). route_at l.routes g.route) (drop l.command-index l.given))
    ≡ rest_after l.length (map (λ (g : Command). route_at l.routes g.route) l.given)
