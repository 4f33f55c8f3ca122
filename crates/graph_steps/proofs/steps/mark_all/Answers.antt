use Rattle.std.proofs.Common.{◌≡◌, ◌+◌, drop, get_or, length, refl, sym, ap, ◌∙◌, arith}
use Rattle.std.proofs.lemmas.List.{at_drop_all, at_drop_more}
use Rattle.graph_steps.specs.Marks.{Marked, mark, mark_all}
use Rattle.graph_steps.proofs.Marking.{same_found}
use Rattle.graph_steps.proofs.steps.mark_all.Goals as goal

pub loop-node-init : goal.loop-node-init
loop-node-init c = record { is = refl; many = refl }

pub mark-requires : goal.mark-requires
mark-requires c =
    let many = c.loop-node.invariant.many in
    let asked = c.requires c.loop-node.node-index 0 c.loop-node-test.true in
    omega arith

pub loop-node-preserved : goal.loop-node-preserved
loop-node-preserved c =
    let i = c.loop-node.node-index in
    let nodes = c.args.nodes.now in
    let steps = c.args.steps in
    let now : Marked = record { found = c.loop-node.found.items; front = c.loop-node.front.items } in
    let next : Marked = record { found = c.mark.new.found.items; front = c.mark.new.front.items } in
    let one : next ≡ mark steps now (get_or nodes i 0) = c.in_ok-mark.ensures in
    let step : mark_all steps now (drop i nodes) ≡ mark_all steps (mark steps now (get_or nodes i 0)) (drop (i + 1) nodes) = at_drop_more (mark_all steps now) nodes i 0 c.loop-node-test.true in
    record {
      is = ap (λ m. mark_all steps m (drop (i + 1) nodes)) one ∙ sym step ∙ c.loop-node.invariant.is;
      many = ap (λ (m : Marked). length m.found) one ∙ same_found steps now (get_or nodes i 0) ∙ c.loop-node.invariant.many;
    }

pub returns : goal.returns
returns c =
    let now : Marked = record { found = c.loop-node.found.items; front = c.loop-node.front.items } in
    sym (at_drop_all (mark_all c.args.steps now) c.args.nodes.now c.loop-node.node-index c.loop-node-test.false) ∙ c.loop-node.invariant.is
