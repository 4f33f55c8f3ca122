use Rattle.std.proofs.Common.{◌≡◌, ◌++◌, drop}
use Rattle.rail_spec.specs.Places.{visits_at, visits_on}
use Rattle.rail_course.proofs.path_nodes.visits_of.Given as goal

abbrev pub invariant-loop-nodes : goal.invariant-loop-nodes
invariant-loop-nodes l = l.made.items ++ visits_at (drop l.nodes-index l.later) l.left ≡ visits_on l.fn.visits l.fn.path_nodes
