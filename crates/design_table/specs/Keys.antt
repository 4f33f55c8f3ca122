-- The keys as the document writes them, and the table of the format: the columns of each kind of entry.
use Rattle.std.specs.Prelude.{ℕ, ℤ, pos, negsuc, Bool, ◌||◌, nat_le, List, [], ◌∷◌, map, filter, codes, if◌then◌else◌}
use Rattle.design_table.specs.declared.field.Form.{Form}
use Rattle.design_table.specs.declared.field.Form.TheVariants as forms
use Rattle.design_table.specs.declared.key.Column.{Column}
use Rattle.design_table.specs.declared.key.Key.{Key}
use Rattle.design_table.specs.declared.key.Key.TheVariants as keys
use Rattle.design_table.specs.declared.place.EntryKind.{EntryKind}
use Rattle.design_table.specs.declared.place.EntryKind.TheVariants as kinds

-- the text of a key
abbrev pub key_text : Key → List ℕ
key_text keys.Version = codes "version"
key_text keys.TickMs = codes "tick_ms"
key_text keys.HorizonMs = codes "horizon_ms"
key_text keys.Node = codes "node"
key_text keys.Edge = codes "edge"
key_text keys.Signal = codes "signal"
key_text keys.Vehicle = codes "vehicle"
key_text keys.Train = codes "train"
key_text keys.Order = codes "order"
key_text keys.Within = codes "within"
key_text keys.Overlap = codes "overlap"
key_text keys.Name = codes "name"
key_text keys.Boundary = codes "boundary"
key_text keys.From = codes "from"
key_text keys.FromSide = codes "from_side"
key_text keys.To = codes "to"
key_text keys.ToSide = codes "to_side"
key_text keys.LengthMm = codes "length_mm"
key_text keys.SpeedMmS = codes "speed_mm_s"
key_text keys.Section = codes "section"
key_text keys.Toward = codes "toward"
key_text keys.AccelMmS2 = codes "accel_mm_s2"
key_text keys.BrakeMmS2 = codes "brake_mm_s2"
key_text keys.Visits = codes "visits"
key_text keys.DwellMs = codes "dwell_ms"
key_text keys.FirstTrain = codes "first_train"
key_text keys.FirstVisit = codes "first_visit"
key_text keys.ThenTrain = codes "then_train"
key_text keys.ThenVisit = codes "then_visit"
key_text keys.FromTrain = codes "from_train"
key_text keys.FromVisit = codes "from_visit"
key_text keys.ToTrain = codes "to_train"
key_text keys.ToVisit = codes "to_visit"
key_text keys.MaxMs = codes "max_ms"
key_text keys.Sections = codes "sections"
key_text keys.HoldMs = codes "hold_ms"

-- the key of the array of a kind of entry
abbrev pub kind_key : EntryKind → Key
kind_key kinds.Node = keys.Node
kind_key kinds.Edge = keys.Edge
kind_key kinds.Signal = keys.Signal
kind_key kinds.Vehicle = keys.Vehicle
kind_key kinds.Train = keys.Train
kind_key kinds.Order = keys.Order
kind_key kinds.Within = keys.Within
kind_key kinds.Overlap = keys.Overlap

-- ---- columns: a key, the form of its value, and the first version that has it

abbrev pub column : Key → Form → ℕ → Column
column key form since = record { key = key; form = form; since = since }

-- the columns of each kind of entry, in order
abbrev pub columns_of : EntryKind → List Column
columns_of kinds.Node =
    column keys.Name forms.Name 1
    ∷ column keys.Boundary forms.Flag 1
    ∷ []
columns_of kinds.Edge =
    column keys.Name forms.Name 1
    ∷ column keys.From forms.Name 1
    ∷ column keys.FromSide forms.Side 1
    ∷ column keys.To forms.Name 1
    ∷ column keys.ToSide forms.Side 1
    ∷ column keys.LengthMm forms.Whole 1
    ∷ column keys.SpeedMmS forms.Whole 1
    ∷ column keys.Section forms.Name 1
    ∷ []
columns_of kinds.Signal =
    column keys.Name forms.Name 1
    ∷ column keys.Node forms.Name 1
    ∷ column keys.Toward forms.Side 1
    ∷ []
columns_of kinds.Vehicle =
    column keys.Name forms.Name 1
    ∷ column keys.LengthMm forms.Whole 1
    ∷ column keys.AccelMmS2 forms.Whole 1
    ∷ column keys.BrakeMmS2 forms.Whole 1
    ∷ column keys.SpeedMmS forms.Whole 1
    ∷ []
columns_of kinds.Train =
    column keys.Name forms.Name 1
    ∷ column keys.Vehicle forms.Name 1
    ∷ column keys.Visits forms.Visits 1
    ∷ column keys.DwellMs forms.Wholes 3
    ∷ []
columns_of kinds.Order =
    column keys.FirstTrain forms.Name 1
    ∷ column keys.FirstVisit forms.Whole 1
    ∷ column keys.ThenTrain forms.Name 1
    ∷ column keys.ThenVisit forms.Whole 1
    ∷ []
columns_of kinds.Within =
    column keys.FromTrain forms.Name 1
    ∷ column keys.FromVisit forms.Whole 1
    ∷ column keys.ToTrain forms.Name 1
    ∷ column keys.ToVisit forms.Whole 1
    ∷ column keys.MaxMs forms.Whole 1
    ∷ []
columns_of kinds.Overlap =
    column keys.Signal forms.Name 4
    ∷ column keys.Sections forms.Names 4
    ∷ column keys.HoldMs forms.Whole 4
    ∷ []

-- and of the top
abbrev pub top_columns : List Column
top_columns =
    column keys.Version forms.Whole 1
    ∷ column keys.TickMs forms.Whole 1
    ∷ column keys.HorizonMs forms.Whole 1
    ∷ column keys.Node forms.Array 1
    ∷ column keys.Edge forms.Array 1
    ∷ column keys.Signal forms.Array 1
    ∷ column keys.Vehicle forms.Array 1
    ∷ column keys.Train forms.Array 1
    ∷ column keys.Order forms.Array 1
    ∷ column keys.Within forms.Array 1
    ∷ column keys.Overlap forms.Array 4
    ∷ []

-- ---- what a version knows

-- the number of a version, from 1 to 4; 0 for a number that is no version
abbrev pub version_number : ℤ → ℕ
version_number (pos n) = if nat_le n 4 then n else 0
version_number (negsuc n) = 0

-- A version knows the columns of those up to it. What is no version knows what version 1 has.
abbrev pub known_in : ℕ → Column → Bool
known_in version column = nat_le column.since 1 || nat_le column.since version

-- the keys of these columns that a version knows
abbrev pub keys_in : ℕ → List Column → List Key
keys_in version columns = map (λ column. column.key) (filter (known_in version) columns)

-- of a kind of entry
abbrev pub keys_of : ℕ → EntryKind → List Key
keys_of version kind = keys_in version (columns_of kind)

-- of the top
abbrev pub top_keys : ℕ → List Key
top_keys version = keys_in version top_columns
