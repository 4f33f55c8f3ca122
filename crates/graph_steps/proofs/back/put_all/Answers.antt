use Rattle.std.proofs.Common.{◌≡◌, ◌+◌, ◌<◌, [], ◌∷◌, ◌++◌, drop, get_or, set, length, refl, sym, ap, ◌∙◌, arith}
use Rattle.std.proofs.lemmas.List.{at_drop_all, at_drop_more, get_or_default, length-set}
use Rattle.graph_steps.specs.Marks.{with_item, with_items}
use Rattle.graph_steps.proofs.back.put_all.Goals as goal

pub loop-other-init : goal.loop-other-init
loop-other-init c = record { is = refl; many = refl }

pub loop-other-preserved : goal.loop-other-preserved
loop-other-preserved c =
    let i = c.loop-other.other-index in
    let nodes = c.args.nodes.now in
    let node = c.args.node in
    let lists = c.loop-other.lists.items in
    let q = get_or nodes i 0 in
    let many = c.loop-other.invariant.many in
    let asked : q < length c.args.lists.now.items = c.requires i 0 c.loop-other-test.true in
    let within : q < length lists = omega arith in
    let row : c.index_mut.result.now ≡ get_or lists q [] = c.index_mut.ensures.value ∙ get_or_default lists q c.index_mut.result.now [] within in
    let step : with_items node lists (drop i nodes) ≡ with_items node (with_item node lists q) (drop (i + 1) nodes) = at_drop_more (with_items node lists) nodes i 0 c.loop-other-test.true in
    record {
      is = ap (λ r. with_items node (set lists q r) (drop (i + 1) nodes)) (c.in_ok-push.ensures.ok ∙ ap (λ r. r ++ node ∷ []) row) ∙ sym step ∙ c.loop-other.invariant.is;
      many = length-set lists q c.push.new.self ∙ many;
    }

pub returns : goal.returns
returns c = sym (at_drop_all (with_items c.args.node c.loop-other.lists.items) c.args.nodes.now c.loop-other.other-index c.loop-other-test.false) ∙ c.loop-other.invariant.is
