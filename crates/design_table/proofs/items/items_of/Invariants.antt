use Rattle.std.proofs.Common.{◌≡◌, ◌++◌, drop, map}
use Rattle.toml.specs.View.{view, items_view}
use Rattle.design_table.specs.Forms.{list_of_items}
use Rattle.design_table.proofs.items.items_of.Given as goal

abbrev pub invariant-loop-value : goal.invariant-loop-value
invariant-loop-value g l = map g.T.Item.parsed (list_of_items (items_view l.values)) ≡ map g.T.Item.seen l.items.items ++ map g.T.Item.parsed (map view (drop l.value-index l.values))
