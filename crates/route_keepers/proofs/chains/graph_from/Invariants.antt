use Rattle.std.proofs.Common.{◌≡◌, ◌++◌, drop, map}
use Rattle.route_keepers.specs.Chains.{nodes_apart}
use Rattle.route_keepers.proofs.chains.graph_from.Given as goal

abbrev pub invariant-loop-routes : goal.invariant-loop-routes
invariant-loop-routes l =
    l.graph.items ++ map (nodes_apart l.interlocking.routes l.first) (drop l.routes-index l.onward) ≡ map (nodes_apart l.interlocking.routes l.first) l.onward
