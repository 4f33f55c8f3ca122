use Rattle.std.proofs.Common.{◌≡◌, ◌≤◌, ◌*◌, ◌∷◌, ◌++◌, drop, pos}
use Rattle.rail_spec.specs.Track.{edge_ends, nodes_along, with_offsets}
use Rattle.rail_routes.proofs.route.nodes.Given as goal

abbrev pub invariant-loop-edge : goal.invariant-loop-edge
invariant-loop-edge l = record {
  same : l.nodes ++ with_offsets (nodes_along l.design.station l.from (drop l.edge-index l.path)) (edge_ends l.design.station l.offset (drop l.edge-index l.path))
      ≡ (l.fn.start.node, pos 0) ∷ with_offsets (nodes_along l.design.station l.fn.start l.path) (edge_ends l.design.station 0 l.path);
  bound : l.offset ≤ 10000000 * l.edge-index;
}
