use Rattle.std.proofs.Common.{◌≡◌, ◌++◌, drop}
use Rattle.route_keepers.specs.Chains.{nodes_apart}
use Rattle.route_keepers.proofs.chains.nodes_apart.Given as goal

abbrev pub invariant-loop-route : goal.invariant-loop-route
invariant-loop-route l =
    l.nodes ++ nodes_apart l.interlocking.routes l.fn.first (drop l.route-index l.routes) ≡ nodes_apart l.interlocking.routes l.fn.first l.routes
