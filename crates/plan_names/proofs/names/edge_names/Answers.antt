use Rattle.plan_names.proofs.Turns.{edge_at}
use Rattle.plan_names.proofs.names.edge_names.Goals as goal

pub name_of-requires : goal.name_of-requires
name_of-requires c = edge_at c.args.design.now.station c.args.route.now.edges c.as_slice-edge-items.result.now c.loop-edge.edge-index _ c.requires c.as_slice-edge-items.ensures c.loop-edge-test.true
