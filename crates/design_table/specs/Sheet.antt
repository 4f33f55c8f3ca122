-- The table of the format: what a document spells, and where its keys are wrong.
use Rattle.std.specs.Prelude.{ℕ, Bool, not, ◌||◌, List, [], ◌∷◌, ◌++◌, map, flat_map, Result}
use Rattle.toml.specs.Data.{Data, table, Members, no_members}
use Rattle.design_table.specs.declared.key.Column.{Column}
use Rattle.design_table.specs.declared.key.Key.{Key}
use Rattle.design_table.specs.declared.key.Key.TheVariants as keys
use Rattle.design_table.specs.declared.place.EntryKind.{EntryKind}
use Rattle.design_table.specs.declared.place.EntryKind.TheVariants as kinds
use Rattle.design_table.specs.declared.place.Place.{Place}
use Rattle.design_table.specs.declared.place.Place.TheVariants.{Top, Entry, Field, UnknownField, Unknown}
use Rattle.design_table.specs.Forms.{found, whole_of, is_whole, is_array, items_of, has_form, has_unknown, known_value}
use Rattle.design_table.specs.Keys.{kind_key, columns_of, version_number, known_in, keys_of, top_keys}
use Rattle.design_table.specs.Reads.{at, in_each, ReadsOrRefuses}
use Rattle.design_table.specs.Parsed.{Values, node_of, edge_of, signal_of, vehicle_of, train_of, order_of, within_of}
use Rattle.design_table.specs.Parsed.{ParsedSheet, overlap_of}
use Rattle.design_table.specs.declared.fault.Code.TheVariants.{D02}
use Rattle.design_table.specs.declared.fault.DesignFault.{DesignFault}

-- the number of the version that a document names; that there is such a one is asked later
abbrev pub version_of : Members → ℕ
version_of ms = version_number (whole_of (found keys.Version ms))

-- the value at a key of an entry, or at one of the top, that the version knows
abbrev pub value_of : ℕ → EntryKind → Members → Values
value_of version kind ms key = known_value (keys_of version kind) ms key

abbrev pub top_value : ℕ → Members → Values
top_value version ms key = known_value (top_keys version) ms key

-- the keys of an entry; one that is no table has none
abbrev pub members_of : Data → Members
members_of (table ms) = ms
members_of _ = no_members

-- what the entries of an array spell, where their keys have the right form
unfoldable pub entries_of : {A : Type 0} → ℕ → (Values → A) → EntryKind → Members → List A
entries_of version parsed kind ms =
    map (λ entry. parsed (value_of version kind (members_of entry))) (items_of (top_value version ms (kind_key kind)))

-- what a table spells in a version
abbrev pub sheet_in : ℕ → Members → ParsedSheet
sheet_in version ms = record {
  version = whole_of (found keys.Version ms);
  tick_ms = whole_of (found keys.TickMs ms);
  horizon_ms = whole_of (found keys.HorizonMs ms);
  nodes = entries_of version node_of kinds.Node ms;
  edges = entries_of version edge_of kinds.Edge ms;
  signals = entries_of version signal_of kinds.Signal ms;
  vehicles = entries_of version vehicle_of kinds.Vehicle ms;
  trains = entries_of version train_of kinds.Train ms;
  orders = entries_of version order_of kinds.Order ms;
  withins = entries_of version within_of kinds.Within ms;
  overlaps = entries_of version overlap_of kinds.Overlap ms;
}

-- in its own
unfoldable pub sheet_of : Members → ParsedSheet
sheet_of ms = sheet_in (version_of ms) ms

-- ---- where keys are missing, unknown or of the wrong form

-- the value has the form of the column, if the version knows it
abbrev pub is_right : ℕ → Members → Column → Bool
is_right version ms column = not (known_in version column) || has_form column.form (found column.key ms)

-- the columns that are not right, in order
abbrev pub wrong_columns : ℕ → EntryKind → ℕ → Members → List Place
wrong_columns version kind i ms =
    flat_map (λ column. at (not (is_right version ms column)) (Field kind i column.key)) (columns_of kind)

-- an entry that is a table: its columns, and then any key that the version does not know
abbrev pub wrong_fields : ℕ → EntryKind → ℕ → Members → List Place
wrong_fields version kind i ms =
    wrong_columns version kind i ms ++ at (has_unknown (keys_of version kind) ms) (UnknownField kind i)

-- an entry, which is wrong itself where it is no table
abbrev pub wrong_entry : ℕ → EntryKind → ℕ → Data → List Place
wrong_entry version kind i (table ms) = wrong_fields version kind i ms
wrong_entry version kind i _ = Entry kind i ∷ []

-- What was read, seen by view, is the entry that a table spells; or it is D02 at the first field that is wrong.
abbrev pub ReadsEntry : {X Y : Type 0} → (X → Y) → Result X DesignFault
    → ℕ → EntryKind → ℕ → (Values → Y) → Members → Type 0
ReadsEntry view result version kind i parsed ms =
    ReadsOrRefuses view result D02 (wrong_fields version kind i ms) (parsed (value_of version kind ms))

-- an array: the array itself, then its entries
unfoldable pub wrong_array : ℕ → EntryKind → Members → List Place
wrong_array version kind ms =
    let key = kind_key kind in
    let value = top_value version ms key in
    at (not (is_array value)) (Top key) ++ in_each (wrong_entry version kind) (items_of value)

-- a whole number at the top
abbrev pub wrong_whole : Key → Members → List Place
wrong_whole key ms = at (not (is_whole (found key ms))) (Top key)

-- the whole table in a version, in the order of the walk
abbrev pub faults_in : ℕ → Members → List Place
faults_in version ms =
    wrong_whole keys.Version ms
    ++ (wrong_whole keys.TickMs ms
    ++ (wrong_whole keys.HorizonMs ms
    ++ (wrong_array version kinds.Node ms
    ++ (wrong_array version kinds.Edge ms
    ++ (wrong_array version kinds.Signal ms
    ++ (wrong_array version kinds.Vehicle ms
    ++ (wrong_array version kinds.Train ms
    ++ (wrong_array version kinds.Order ms
    ++ (wrong_array version kinds.Within ms
    ++ (wrong_array version kinds.Overlap ms
    ++ at (has_unknown (top_keys version) ms) Unknown))))))))))

-- in its own
unfoldable pub form_fault : Members → List Place
form_fault ms = faults_in (version_of ms) ms
