use Rattle.std.proofs.Common.{◌≡◌, ◌&&◌, bytes_eq, drop, map}
use Rattle.std.specs.List.{list_any}
use Rattle.design_table.specs.Parsed.{node_seen, sheet_seen}
use Rattle.fault_words.specs.Tracks.{is_boundary}
use Rattle.fault_words.proofs.tracks.is_boundary.Given as goal

-- it is to be found in the rest
abbrev pub invariant-loop-node : goal.invariant-loop-node
invariant-loop-node l = list_any (λ n. bytes_eq n.name l.name && n.boundary) (map node_seen (drop l.node-index l.sheet.nodes.items)) ≡ is_boundary (sheet_seen l.sheet) l.name
