use Rattle.std.proofs.Common.{◌≡◌, drop}
use Rattle.rail_base.specs.Numbering.{from_first}
use Rattle.rail_spec.specs.Plans.{has_node}
use Rattle.rail_course.proofs.path_nodes.from_first.Given as goal

abbrev pub invariant-loop-i : goal.invariant-loop-i
invariant-loop-i l = from_first (λ p. has_node l.nodes p.node) l.path_nodes ≡ from_first (λ p. has_node l.nodes p.node) (drop l.i l.path_nodes)
