use Rattle.std.proofs.Common.{◌≡◌, ◌==◌, ◌||◌, drop}
use Rattle.std.specs.List.{list_any}
use Rattle.look_words.proofs.looks.has_edge.Given as goal

-- none so far does
abbrev pub invariant-loop-edge : goal.invariant-loop-edge
invariant-loop-edge l = list_any (λ e. e.from.node.0 == l.node.0 || e.to.node.0 == l.node.0) (drop l.edge-index l.edge-items) ≡ list_any (λ e. e.from.node.0 == l.node.0 || e.to.node.0 == l.node.0) l.edge-items
