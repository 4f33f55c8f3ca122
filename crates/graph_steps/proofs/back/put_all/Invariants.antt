use Rattle.std.proofs.Common.{◌≡◌, drop, length}
use Rattle.graph_steps.specs.Marks.{with_items}
use Rattle.graph_steps.proofs.back.put_all.Given as goal

abbrev pub invariant-loop-other : goal.invariant-loop-other
invariant-loop-other l = record {
  is : with_items l.node l.lists.items (drop l.other-index l.nodes) ≡ with_items l.node l.fn.lists.items l.nodes;
  many : length l.lists.items ≡ length l.fn.lists.items;
}
