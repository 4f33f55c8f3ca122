use Rattle.std.proofs.Common.{◌∙◌}
use Rattle.plan_names.proofs.Turns.{edge_at, turn_directed}
use Rattle.plan_names.proofs.names.directed_names.Goals as goal

pub directed_name-requires : goal.directed_name-requires
directed_name-requires c = edge_at c.args.design.now.station c.args.route.now.edges c.as_slice-edge-items.result.now c.loop-index.index _ c.requires.edges c.as_slice-edge-items.ensures c.loop-index-test.true

pub loop-index-preserved : goal.loop-index-preserved
loop-index-preserved c =
    c.in_ok-push.ensures.ok
    ∙ turn_directed c.args.design.now.station c.args.route.now.edges c.as_slice-edge-items.result.now c.args.route.now.nodes c.as_slice-nodes.result.now c.loop-index.index _ _ c.as_slice-edge-items.ensures c.as_slice-nodes.ensures c.loop-index-test.true c.requires.nodes c.loop-index.invariant c.in_ok-name.ensures
