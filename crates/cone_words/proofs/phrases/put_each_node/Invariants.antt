use Rattle.std.proofs.Common.{◌≡◌, ◌++◌, take, codes}
use Rattle.rail_base.specs.Names.{node_name}
use Rattle.cone_words.specs.Phrases.{each_after}
use Rattle.cone_words.proofs.phrases.put_each_node.Given as goal

abbrev pub invariant-loop-node : goal.invariant-loop-node
invariant-loop-node l = l.text.items ≡ l.initial.text.items ++ each_after (codes " or ") (node_name l.design.station) (take l.node-index l.nodes)
