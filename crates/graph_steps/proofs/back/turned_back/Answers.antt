use Rattle.std.proofs.Common.{◌≡◌, ◌+◌, [], drop, length, sym, ap, subst, ◌∙◌}
use Rattle.std.proofs.lemmas.List.{at_drop_all, at_drop_more, length-replicate}
use Rattle.graph_steps.specs.Graphs.{next, IsTurned}
use Rattle.graph_steps.specs.Marks.{with_each, with_items}
use Rattle.graph_steps.proofs.Leading.{row_is, row_within}
use Rattle.graph_steps.proofs.Turning.{is_turned, same_many}
use Rattle.graph_steps.proofs.back.turned_back.Goals as goal

pub loop-node-init : goal.loop-node-init
loop-node-init c = record {
  is = ap (λ ls. with_each 0 ls c.args.graph.now) c.in_ok-back.ensures;
  many = ap length c.in_ok-back.ensures ∙ length-replicate (length c.args.graph.now) [];
}

pub put_all-requires : goal.put_all-requires
put_all-requires c =
    let row = row_is c.args.graph.now c.loop-node.node c.as_slice.result.now c.index-graph-node.result c.loop-node-test.true c.index-graph-node.is c.as_slice.ensures in
    row_within c.args.graph.now c.requires c.loop-node.node (length c.loop-node.back.items) c.as_slice.result.now row (sym c.loop-node.invariant.many)

pub loop-node-preserved : goal.loop-node-preserved
loop-node-preserved c =
    let graph = c.args.graph.now in
    let node = c.loop-node.node in
    let back = c.loop-node.back.items in
    let row = row_is graph node c.as_slice.result.now c.index-graph-node.result c.loop-node-test.true c.index-graph-node.is c.as_slice.ensures in
    let put : c.put_all.new.lists.items ≡ with_items node back (next graph node) = c.in_ok-put_all.ensures ∙ ap (with_items node back) row in
    let step : with_each node back (drop node graph) ≡ with_each (node + 1) (with_items node back (next graph node)) (drop (node + 1) graph) = at_drop_more (with_each node back) graph node [] c.loop-node-test.true in
    record {
      is = ap (λ ls. with_each (node + 1) ls (drop (node + 1) graph)) put ∙ sym step ∙ c.loop-node.invariant.is;
      many = ap length put ∙ same_many node back (next graph node) ∙ c.loop-node.invariant.many;
    }

pub returns : goal.returns
returns c =
    let graph = c.args.graph.now in
    let made = sym (at_drop_all (with_each c.loop-node.node c.loop-node.back.items) graph c.loop-node.node c.loop-node-test.false) ∙ c.loop-node.invariant.is in
    subst (IsTurned graph) (sym made) (is_turned graph c.requires)
