use Rattle.std.proofs.Common.{◌≡◌, [], drop, length, replicate}
use Rattle.graph_steps.specs.Marks.{with_each}
use Rattle.graph_steps.proofs.back.turned_back.Given as goal

abbrev pub invariant-loop-node : goal.invariant-loop-node
invariant-loop-node l = record {
  is : with_each l.node l.back.items (drop l.node l.graph) ≡ with_each 0 (replicate (length l.graph) []) l.graph;
  many : length l.back.items ≡ length l.graph;
}
