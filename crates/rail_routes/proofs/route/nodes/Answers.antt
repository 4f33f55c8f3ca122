use Rattle.std.proofs.Common.{arith}
use Rattle.rail_routes.proofs.Walking.{edge_at}
use Rattle.rail_routes.proofs.route.nodes.Goals as goal

pub length_of-offset-requires : goal.length_of-offset-requires
length_of-offset-requires c = edge_at c.args.design.now.station c.args.path.now c.loop-edge.edge-index _ c.requires (omega arith)

pub edge-requires : goal.edge-requires
edge-requires c = edge_at c.args.design.now.station c.args.path.now c.loop-edge.edge-index _ c.requires (omega arith)
