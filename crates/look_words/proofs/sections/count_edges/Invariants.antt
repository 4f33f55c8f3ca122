use Rattle.std.proofs.Common.{◌≡◌, ◌==◌, ◌≤◌, ◌+◌, drop, filter, length}
use Rattle.look_words.proofs.sections.count_edges.Given as goal

-- those counted, and those in the rest
abbrev pub invariant-loop-edge : goal.invariant-loop-edge
invariant-loop-edge l = (l.count ≤ l.edge-index) × (l.count + length (filter (λ e. e.section.0 == l.section) (drop l.edge-index l.edges)) ≡ length (filter (λ e. e.section.0 == l.section) l.edges))
