use Rattle.std.proofs.Common.{◌≡◌, ◌+◌, drop, get_or, length, refl, sym, ap, ◌∙◌}
use Rattle.std.proofs.lemmas.List.{at_drop_all, at_drop_more}
use Rattle.graph_steps.specs.Graphs.{next}
use Rattle.graph_steps.specs.Marks.{Marked, mark_all, mark_next}
use Rattle.graph_steps.proofs.Leading.{row_is, row_within}
use Rattle.graph_steps.proofs.Marking.{same_found_all}
use Rattle.graph_steps.proofs.steps.further.Goals as goal

pub loop-node-init : goal.loop-node-init
loop-node-init c = record {
  is = ap (λ front. mark_next c.args.graph.now c.args.steps (record { found = c.args.found.now.items; front = front }) c.args.front.now) c.new-further.ensures.items;
  many = refl;
}

pub mark_all-requires : goal.mark_all-requires
mark_all-requires c =
    let graph = c.args.graph.now in
    let p = get_or c.args.front.now c.loop-node.node-index 0 in
    let row = row_is graph p c.as_slice.result.now c.index-graph-node.result (c.requires.front c.loop-node.node-index 0 c.loop-node-test.true) c.index-graph-node.is c.as_slice.ensures in
    row_within graph c.requires.graph p (length c.loop-node.found.items) c.as_slice.result.now row (sym (c.loop-node.invariant.many ∙ c.requires.one_a_node))

pub loop-node-preserved : goal.loop-node-preserved
loop-node-preserved c =
    let graph = c.args.graph.now in
    let front = c.args.front.now in
    let steps = c.args.steps in
    let i = c.loop-node.node-index in
    let p = get_or front i 0 in
    let row = row_is graph p c.as_slice.result.now c.index-graph-node.result (c.requires.front i 0 c.loop-node-test.true) c.index-graph-node.is c.as_slice.ensures in
    let now : Marked = record { found = c.loop-node.found.items; front = c.loop-node.further.items } in
    let new : Marked = record { found = c.mark_all.new.found.items; front = c.mark_all.new.front.items } in
    let one : new ≡ mark_all steps now (next graph p) = c.in_ok-mark_all.ensures ∙ ap (mark_all steps now) row in
    let step : mark_next graph steps now (drop i front) ≡ mark_next graph steps (mark_all steps now (next graph p)) (drop (i + 1) front) = at_drop_more (mark_next graph steps now) front i 0 c.loop-node-test.true in
    record {
      is = ap (λ m. mark_next graph steps m (drop (i + 1) front)) one ∙ sym step ∙ c.loop-node.invariant.is;
      many = ap (λ (m : Marked). length m.found) one ∙ same_found_all steps now (next graph p) ∙ c.loop-node.invariant.many;
    }

pub returns : goal.returns
returns c =
    let now : Marked = record { found = c.loop-node.found.items; front = c.loop-node.further.items } in
    sym (at_drop_all (mark_next c.args.graph.now c.args.steps now) c.args.front.now c.loop-node.node-index c.loop-node-test.false) ∙ c.loop-node.invariant.is
