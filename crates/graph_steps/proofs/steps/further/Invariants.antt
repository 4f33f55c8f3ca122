use Rattle.std.proofs.Common.{◌≡◌, [], drop, length}
use Rattle.graph_steps.specs.Marks.{mark_next}
use Rattle.graph_steps.proofs.steps.further.Given as goal

abbrev pub invariant-loop-node : goal.invariant-loop-node
invariant-loop-node l = record {
  is : mark_next l.graph l.steps (record { found = l.found.items; front = l.further.items }) (drop l.node-index l.front)
      ≡ mark_next l.graph l.steps (record { found = l.fn.found.items; front = [] }) l.front;
  many : length l.found.items ≡ length l.fn.found.items;
}
