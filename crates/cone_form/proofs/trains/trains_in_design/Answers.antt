use Rattle.std.proofs.Common.{List, sym, ap, ◌∙◌}
use Rattle.std.specs.List.{list_all}
use Rattle.cone_spec.specs.declared.ConeTrain.{ConeTrain}
use Rattle.cone_spec.specs.Validity.{train_in_design}
use Rattle.cone_form.proofs.Walks.{all_stop, all_next}
use Rattle.cone_form.proofs.trains.trains_in_design.Goals as goal

pub returns-then-not-train_in_design : goal.returns-then-not-train_in_design
returns-then-not-train_in_design c =
    all_stop (train_in_design c.args.interlocking.now.design.station c.args.interlocking.now.routes c.args.cone.now) c.as_slice-entry-items.result.now c.loop-entry.entry-index c.entry-item.result c.loop-entry-test.true c.entry-item.is (sym (c.train_in_design.ensures c.args.cone.now) ∙ c.if-not-train_in_design.true) c.loop-entry.invariant
    ∙ ap (λ (es : List ConeTrain). list_all (train_in_design c.args.interlocking.now.design.station c.args.interlocking.now.routes c.args.cone.now) es) c.as_slice-entry-items.ensures

pub loop-entry-preserved : goal.loop-entry-preserved
loop-entry-preserved c = all_next (train_in_design c.args.interlocking.now.design.station c.args.interlocking.now.routes c.args.cone.now) c.as_slice-entry-items.result.now c.loop-entry.entry-index c.entry-item.result c.loop-entry-test.true c.entry-item.is (sym (c.train_in_design.ensures c.args.cone.now) ∙ c.if-not-train_in_design.false) c.loop-entry.invariant
