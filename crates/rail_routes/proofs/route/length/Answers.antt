use Rattle.std.proofs.Common.{arith}
use Rattle.rail_routes.proofs.Walking.{edge_at}
use Rattle.rail_routes.proofs.route.length.Goals as goal

pub length_of-length-requires : goal.length_of-length-requires
length_of-length-requires c = edge_at c.args.design.now.station c.args.path.now c.loop-edge.edge-index _ c.requires (omega arith)
