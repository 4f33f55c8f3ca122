use Rattle.rail_base.specs.declared.station.NodeNo.{NodeNo}
use Rattle.number_sets.specs.Sets.{contains}
use Rattle.interlocking.proofs.Sectioned.{one_more}
use Rattle.bound_design.proofs.visit.node_set.Goals as goal

pub loop-node-preserved : goal.loop-node-preserved
loop-node-preserved c = λ n. one_more (λ (m : NodeNo). m.0) c.args.nodes.now c.loop-node.node-index n.0 _ (contains c.add.new.self n.0) (contains c.loop-node.set n.0) c.loop-node-test.true (c.in_ok-add.ensures.added n.0) (c.loop-node.invariant n)
