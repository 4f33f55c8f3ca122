use Rattle.std.proofs.Common.{◌≡◌, drop, map}
use Rattle.design_table.specs.Parsed.{node_seen, sheet_seen}
use Rattle.infra_reader.specs.Names.{is_among, node_names}
use Rattle.fault_words.proofs.names.is_node.Given as goal

-- it is to be found in the rest
abbrev pub invariant-loop-node : goal.invariant-loop-node
invariant-loop-node l = is_among (map (λ n. n.name) (map node_seen (drop l.node-index l.sheet.nodes.items))) l.name ≡ is_among (node_names (sheet_seen l.sheet)) l.name
