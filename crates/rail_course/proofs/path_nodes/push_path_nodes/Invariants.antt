use Rattle.std.proofs.Common.{◌≡◌, ◌++◌, drop, map}
use Rattle.rail_course.specs.PathNodes.{path_node_at}
use Rattle.rail_course.proofs.path_nodes.push_path_nodes.Given as goal

abbrev pub invariant-loop-node : goal.invariant-loop-node
invariant-loop-node l = l.path_nodes.items ++ map (path_node_at l.begin l.command) (drop l.node-index l.nodes) ≡ l.fn.path_nodes.items ++ map (path_node_at l.begin l.command) l.nodes
