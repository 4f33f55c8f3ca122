-- Where a place of a design stands in its text: the text from there on.
use Rattle.std.specs.Prelude.{ℕ, ◌-◌, Bool, false, not, List, bytes_eq, Option, None, option_map, unwrap_or}
use Rattle.std.specs.List.{find, slice_get}
use Rattle.std.specs.Option.{option_map_or}
use Rattle.toml_places.specs.Finding.{entries_of, keys_of, name_at, top_lines}
use Rattle.toml_places.specs.Starts.{document_lines}
use Rattle.design_table.specs.declared.key.Key.{Key}
use Rattle.design_table.specs.declared.place.EntryKind.{EntryKind}
use Rattle.design_table.specs.declared.place.Place.{Place}
use Rattle.design_table.specs.declared.place.Place.TheVariants as places
use Rattle.design_table.specs.Forms.{is_known}
use Rattle.design_table.specs.Keys.{key_text, kind_key, keys_of as keys_of_kind, top_keys}

-- a line, or a key of a table, begins with this key
abbrev pub begins_as : Key → List ℕ → Bool
begins_as key text = option_map_or (λ name. bytes_eq name (key_text key)) (name_at text) false

-- with none of these keys
abbrev pub begins_otherwise : List Key → List ℕ → Bool
begins_otherwise known text = option_map_or (λ name. not (is_known known name)) (name_at text) false

-- of the lines of a document
module _ (lines : List (List ℕ)) where
  -- the entry of this number, counted from 1
  abbrev pub entry_at : EntryKind → ℕ → Option (List ℕ)
  entry_at kind i = slice_get (entries_of (key_text (kind_key kind)) lines) (i - 1)

  -- its key that passes the test, or where there is none the entry itself
  abbrev pub field_at : EntryKind → ℕ → (List ℕ → Bool) → Option (List ℕ)
  field_at kind i test = option_map (λ entry. unwrap_or (find test (keys_of entry)) entry) (entry_at kind i)

  -- the place, where the text has it: a key, or an entry. Which keys are unknown depends on the version of the design.
  abbrev pub place_at : ℕ → Place → Option (List ℕ)
  place_at version places.File = None
  place_at version (places.Top key) = find (begins_as key) (top_lines lines)
  place_at version (places.Entry kind i) = entry_at kind i
  place_at version (places.Field kind i key) = field_at kind i (begins_as key)
  place_at version (places.UnknownField kind i) = field_at kind i (begins_otherwise (keys_of_kind version kind))
  place_at version places.Unknown = find (begins_otherwise (top_keys version)) (top_lines lines)
  place_at version places.Routes = None

-- the place in a text
abbrev pub place_in : ℕ → List ℕ → Place → Option (List ℕ)
place_in version text place = place_at (document_lines text) version place
