use Rattle.std.proofs.Common.{◌≡◌, drop, map}
use Rattle.std.specs.List.{list_all}
use Rattle.toml.specs.View.{view, items_view}
use Rattle.design_table.specs.Forms.{list_of_items}
use Rattle.design_table.proofs.items.are_items.Given as goal

abbrev pub invariant-loop-value : goal.invariant-loop-value
invariant-loop-value g l = list_all g.T.Item.has_form (map view (drop l.value-index l.values)) ≡ list_all g.T.Item.has_form (list_of_items (items_view l.values))
