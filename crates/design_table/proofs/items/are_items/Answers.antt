use Rattle.std.proofs.Common.{refl, sym, ◌∙◌}
use Rattle.design_table.proofs.EntryLists.{listed_view, value_fails, value_passes, all_passed}
use Rattle.design_table.proofs.items.are_items.Goals as goal

pub loop-value-init : goal.loop-value-init
loop-value-init g c = rw (listed_view c.args.values.now) refl

pub returns-then-not-is_item : goal.returns-then-not-is_item
returns-then-not-is_item g c = value_fails g.T.Item.has_form c.args.values.now c.loop-value.value-index c.value-item.result _ c.loop-value-test.true c.value-item.is c.loop-value.invariant (sym c.is_item-is_item.ensures ∙ c.if-not-is_item.true)

pub loop-value-preserved : goal.loop-value-preserved
loop-value-preserved g c = value_passes g.T.Item.has_form c.args.values.now c.loop-value.value-index c.value-item.result _ c.loop-value-test.true c.value-item.is c.loop-value.invariant (sym c.is_item-is_item.ensures ∙ c.if-not-is_item.false)

pub returns : goal.returns
returns g c = all_passed g.T.Item.has_form c.args.values.now c.loop-value.value-index _ c.loop-value-test.false c.loop-value.invariant
