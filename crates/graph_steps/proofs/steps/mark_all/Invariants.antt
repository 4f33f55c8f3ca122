use Rattle.std.proofs.Common.{◌≡◌, drop, length}
use Rattle.graph_steps.specs.Marks.{mark_all}
use Rattle.graph_steps.proofs.steps.mark_all.Given as goal

abbrev pub invariant-loop-node : goal.invariant-loop-node
invariant-loop-node l = record {
  is : mark_all l.steps (record { found = l.found.items; front = l.front.items }) (drop l.node-index l.nodes)
      ≡ mark_all l.steps (record { found = l.fn.found.items; front = l.fn.front.items }) l.nodes;
  many : length l.found.items ≡ length l.fn.found.items;
}
