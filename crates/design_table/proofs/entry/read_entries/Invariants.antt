use Rattle.std.proofs.Common.{◌≡◌, ◌+◌, ◌++◌, drop, map}
use Rattle.toml.specs.View.{view, items_view}
use Rattle.design_table.specs.Sheet.{members_of, value_of, wrong_entry}
use Rattle.design_table.specs.Forms.{list_of_items}
use Rattle.design_table.specs.Reads.{in_each}
use Rattle.design_table.proofs.EntryLists.{places_from}
use Rattle.design_table.proofs.entry.read_entries.Given as goal

abbrev pub invariant-loop-value : goal.invariant-loop-value
invariant-loop-value g l = record {
  number : l.number ≡ l.value-index + 1;
  places : in_each (wrong_entry l.version g.E.Entry.kind) (list_of_items (items_view l.values)) ≡ places_from (wrong_entry l.version g.E.Entry.kind) l.number (map view (drop l.value-index l.values));
  entries : map (λ entry. g.E.Entry.parsed (value_of l.version g.E.Entry.kind (members_of entry))) (list_of_items (items_view l.values)) ≡ map g.E.Entry.seen l.entries.items ++ map (λ entry. g.E.Entry.parsed (value_of l.version g.E.Entry.kind (members_of entry))) (map view (drop l.value-index l.values));
}
