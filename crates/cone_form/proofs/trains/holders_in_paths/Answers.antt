use Rattle.std.proofs.Common.{List, sym, ap, ◌∙◌}
use Rattle.std.specs.List.{list_all}
use Rattle.cone_spec.specs.declared.ConeTrain.{ConeTrain}
use Rattle.cone_spec.specs.Validity.{holder_in_path}
use Rattle.cone_form.proofs.Walks.{all_stop, all_next, all_end}
use Rattle.cone_form.proofs.trains.holders_in_paths.Goals as goal

pub returns-then-not-holder_in_path : goal.returns-then-not-holder_in_path
returns-then-not-holder_in_path c = λ i.
    all_stop (λ (e : ConeTrain). holder_in_path i.design.station i.routes c.args.cone.now e.holder) c.as_slice-entry-items.result.now c.loop-entry.entry-index c.entry-item.result c.loop-entry-test.true c.entry-item.is (sym (c.holder_in_path.ensures i.design.station i.routes) ∙ c.if-not-holder_in_path.true) (c.loop-entry.invariant i)
    ∙ ap (λ (es : List ConeTrain). list_all (λ (e : ConeTrain). holder_in_path i.design.station i.routes c.args.cone.now e.holder) es) c.as_slice-entry-items.ensures

pub loop-entry-preserved : goal.loop-entry-preserved
loop-entry-preserved c = λ i.
    all_next (λ (e : ConeTrain). holder_in_path i.design.station i.routes c.args.cone.now e.holder) c.as_slice-entry-items.result.now c.loop-entry.entry-index c.entry-item.result c.loop-entry-test.true c.entry-item.is (sym (c.holder_in_path.ensures i.design.station i.routes) ∙ c.if-not-holder_in_path.false) (c.loop-entry.invariant i)

pub returns : goal.returns
returns c = λ i.
    all_end (λ (e : ConeTrain). holder_in_path i.design.station i.routes c.args.cone.now e.holder) c.as_slice-entry-items.result.now c.loop-entry.entry-index c.loop-entry-test.false (c.loop-entry.invariant i)
    ∙ ap (λ (es : List ConeTrain). list_all (λ (e : ConeTrain). holder_in_path i.design.station i.routes c.args.cone.now e.holder) es) c.as_slice-entry-items.ensures
