use Rattle.plan_names.proofs.Turns.{route_edges, route_nodes, of_table}
use Rattle.plan_names.proofs.names.shown_routes.Goals as goal

pub shown_names-requires-clause-edges : goal.shown_names-requires-clause-edges
shown_names-requires-clause-edges c = route_edges c.args.interlocking.now.design.station c.args.interlocking.now.design.admitted _ (of_table c.as_slice-route-items.result.now c.args.interlocking.now.routes _ c.loop-route.route-index _ _ c.as_slice-route-items.ensures c.args.interlocking.now.table c.loop-route-test.true c.route-item.is)

pub shown_names-requires-clause-nodes : goal.shown_names-requires-clause-nodes
shown_names-requires-clause-nodes c = route_nodes c.args.interlocking.now.design.station c.args.interlocking.now.design.admitted _ (of_table c.as_slice-route-items.result.now c.args.interlocking.now.routes _ c.loop-route.route-index _ _ c.as_slice-route-items.ensures c.args.interlocking.now.table c.loop-route-test.true c.route-item.is)
