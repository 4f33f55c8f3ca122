use Rattle.std.proofs.Common.{◌≡◌, None, replicate}
use Rattle.graph_steps.proofs.steps.none_found.Given as goal

abbrev pub invariant-loop-node : goal.invariant-loop-node
invariant-loop-node l = l.found.items ≡ replicate l._node None
