use Rattle.std.proofs.Common.{◌≡◌, ◌+◌, drop}
use Rattle.plan_ways.specs.Paths.{nodes_of}
use Rattle.plan_ways.proofs.routes.left_after.Given as goal

abbrev pub invariant-loop-route : goal.invariant-loop-route
invariant-loop-route l = l.left + nodes_of l.routes l.way ≡ l.number + nodes_of l.routes (drop l.route-index l.way)
