use Rattle.std.proofs.Common.{◌≡◌, ◌++◌, drop, flat_map}
use Rattle.rail_outside.specs.Lines.{lines_of}
use Rattle.look_words.specs.Looks.{edge_looks}
use Rattle.look_words.proofs.looks.push_edges.Given as goal

-- with those that are left
abbrev pub invariant-loop-edge : goal.invariant-loop-edge
invariant-loop-edge l = lines_of l.lines.items ++ flat_map edge_looks (drop l.edge-index l.edges) ≡ lines_of l.initial.lines.items ++ flat_map edge_looks l.edges
