use Rattle.std.proofs.Common.{◌≡◌, ◌++◌, drop, flat_map, map}
use Rattle.design_table.specs.Texts.{texts}
use Rattle.design_table.specs.Parsed.{edge_seen, sheet_seen}
use Rattle.fault_words.specs.Tracks.{edges_at, ends_at}
use Rattle.fault_words.proofs.tracks.edges_at.Given as goal

-- those so far, and those of the rest
abbrev pub invariant-loop-edge : goal.invariant-loop-edge
invariant-loop-edge l = texts l.names.items ++ flat_map (ends_at l.node l.side) (map edge_seen (drop l.edge-index l.sheet.edges.items)) ≡ edges_at (sheet_seen l.sheet) l.node l.side
