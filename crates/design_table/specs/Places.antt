-- A key of one entry: its value, and its place in the design.
use Rattle.toml.specs.View.{table_view}
use Rattle.design_table.specs.declared.fields.Fields.{Fields}
use Rattle.design_table.specs.declared.key.Key.{Key}
use Rattle.design_table.specs.declared.place.Place.{Place}
use Rattle.design_table.specs.declared.place.Place.TheVariants.{Field}
use Rattle.design_table.specs.Parsed.{Values}
use Rattle.design_table.specs.Sheet.{value_of}

-- the value at a key of the entry
abbrev pub value_in : Fields → Values
value_in entry = value_of entry.version entry.kind (table_view entry.table.now)

-- the place of a key of the entry
abbrev pub place_in : Fields → Key → Place
place_in entry key = Field entry.kind entry.number key
