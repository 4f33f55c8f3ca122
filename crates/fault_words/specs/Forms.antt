-- What is wrong with the form of a document, in words.
use Rattle.std.specs.Prelude.{ℕ, Bool, List, [], ◌++◌, codes, decimal, is_none, if◌then◌else◌}
use Rattle.toml.specs.Data.{Members, no_members}
use Rattle.design_table.specs.declared.key.Key.{Key}
use Rattle.design_table.specs.declared.key.Key.TheVariants as keys
use Rattle.design_table.specs.declared.place.EntryKind.{EntryKind}
use Rattle.design_table.specs.declared.place.EntryKind.TheVariants as kinds
use Rattle.design_table.specs.declared.place.Place.{Place}
use Rattle.design_table.specs.declared.place.Place.TheVariants as places
use Rattle.design_table.specs.Forms.{found, is_name_text, items_of}
use Rattle.design_table.specs.Keys.{key_text, kind_key}
use Rattle.design_table.specs.Sheet.{members_of}
use Rattle.fault_words.specs.Entries.{of_entry}
use Rattle.fault_words.specs.Words.{kind_text, line_of}

-- ---- keys that are missing, and those of the wrong form

-- the keys of the entry of this number, counted from 1
abbrev pub keys_of_entry : Members → EntryKind → ℕ → Members
keys_of_entry ms kind i = of_entry members_of no_members (items_of (found (kind_key kind) ms)) i

-- the form of the value at a key of the top
abbrev pub top_form : Key → List ℕ
top_form keys.Version = codes "a whole number"
top_form keys.TickMs = codes "a whole number"
top_form keys.HorizonMs = codes "a whole number"
top_form _ = codes "an array of tables"

-- and at a key of an entry
abbrev pub field_form : Key → List ℕ
field_form keys.Boundary = codes "true or false"
field_form keys.FromSide = codes "\"a\" or \"b\""
field_form keys.ToSide = codes "\"a\" or \"b\""
field_form keys.Toward = codes "\"a\" or \"b\""
field_form keys.LengthMm = codes "a whole number"
field_form keys.SpeedMmS = codes "a whole number"
field_form keys.AccelMmS2 = codes "a whole number"
field_form keys.BrakeMmS2 = codes "a whole number"
field_form keys.FirstVisit = codes "a whole number"
field_form keys.ThenVisit = codes "a whole number"
field_form keys.FromVisit = codes "a whole number"
field_form keys.ToVisit = codes "a whole number"
field_form keys.MaxMs = codes "a whole number"
field_form keys.HoldMs = codes "a whole number"
field_form keys.Sections = codes "an array of names of sections"
field_form keys.Visits = codes "an array of arrays of names of nodes"
field_form keys.DwellMs = codes "an array of whole numbers"
field_form _ = codes "a text of 1 to 32 letters, digits, _ or -"

-- `the key tick_ms is missing`, or `tick_ms is to be a whole number`
abbrev pub key_words : Bool → Key → List ℕ → List ℕ
key_words is_missing key form =
    if is_missing then codes "the key " ++ key_text key ++ codes " is missing"
    else key_text key ++ codes " is to be " ++ form

-- `edge 3 is to be a table`
abbrev pub entry_words : EntryKind → ℕ → List ℕ
entry_words kind i = kind_text kind ++ codes " " ++ decimal i ++ codes " is to be a table"

-- ---- keys that nothing asks for

-- a key by its name, where it has the form of one
abbrev pub key_named : List ℕ → List ℕ
key_named name = if is_name_text name then codes "the key " ++ name else codes "this key"

-- an entry of a kind
abbrev pub any_text : EntryKind → List ℕ
any_text kinds.Node = codes "a node"
any_text kinds.Edge = codes "an edge"
any_text kinds.Signal = codes "a signal"
any_text kinds.Vehicle = codes "a vehicle"
any_text kinds.Train = codes "a train"
any_text kinds.Order = codes "an order"
any_text kinds.Within = codes "a within"
any_text kinds.Overlap = codes "an overlap"

-- `the key colour is none of an edge`
abbrev pub none_words : List ℕ → List ℕ → List ℕ
none_words unknown whole = key_named unknown ++ codes " is none of " ++ whole

-- ---- at a place

-- a table lacks a key
abbrev pub lacks : Members → Key → Bool
lacks ms key = is_none (found key ms)

abbrev pub form_words : Members → Place → List ℕ → List ℕ
form_words ms (places.Top key) unknown = key_words (lacks ms key) key (top_form key)
form_words ms (places.Entry kind i) unknown = entry_words kind i
form_words ms (places.Field kind i key) unknown = key_words (lacks (keys_of_entry ms kind i) key) key (field_form key)
form_words ms (places.UnknownField kind i) unknown = none_words unknown (any_text kind)
form_words ms places.Unknown unknown = none_words unknown (codes "a design")
form_words ms _ unknown = []

-- what is wrong with the document that is refused at this place, where the name of an unknown key is this one
abbrev pub form_sentence : Members → Place → List ℕ → List ℕ
form_sentence ms place unknown = line_of (form_words ms place unknown)
