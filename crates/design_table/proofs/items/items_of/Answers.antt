use Rattle.std.proofs.Common.{map, refl}
use Rattle.design_table.proofs.EntryLists.{listed_view, entry_read, all_read}
use Rattle.design_table.proofs.items.items_of.Goals as goal

pub loop-value-init : goal.loop-value-init
loop-value-init g c = rw (listed_view c.args.values.now, c.new-items.ensures.items) refl

pub loop-value-preserved : goal.loop-value-preserved
loop-value-preserved g c = entry_read g.T.Item.parsed g.T.Item.seen c.args.values.now c.loop-value.value-index c.value-item.result c.in_ok-item.field-0 c.loop-value.items.items c.push.new.self.items _ c.loop-value-test.true c.value-item.is c.loop-value.invariant c.in_ok-item.ensures c.in_ok-push.ensures.items

pub returns : goal.returns
returns g c = all_read g.T.Item.parsed (map g.T.Item.seen c.loop-value.items.items) _ c.args.values.now c.loop-value.value-index c.loop-value-test.false c.loop-value.invariant
