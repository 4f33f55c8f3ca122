-- The design that the bytes of a file spell: keys with their values, and names in place of numbers.
use Prim.Native.String.{String}
use Rattle.std.specs.Prelude.{◌≡◌, ℕ, pos, ◌<◌, true, false, not, nat_le, if◌then◌else◌, List, [], ◌∷◌, map, filter}
use Rattle.std.specs.Prelude.{Some, unwrap_or, codes}
use Rattle.std.specs.Str.{bytes_eq, is_utf8}
use Rattle.toml.specs.Data.{Data, string, integer, boolean, array, table, no_items, item, Members, get_member}
use Rattle.toml.specs.Parse.{parse_document}
use Rattle.toml.specs.View.{items_of}
use Rattle.rail_base.specs.declared.station.Station.{Station}
use Rattle.rail_base.specs.declared.station.Train.{Train}
use Rattle.rail_base.specs.declared.station.Side.{Side}
use Rattle.rail_base.specs.declared.station.Side.TheVariants.{A, B}
use Rattle.rail_base.specs.Members.{In}
use Rattle.rail_base.specs.Names.{node_name, section_name, signal_name, train_name}
use Rattle.rail_base.specs.Stations.{vehicle_at}

-- ---- values

-- a whole number
abbrev pub whole : ℕ → Data
whole n = integer (pos n)

-- a side of a node
abbrev pub side : Side → Data
side A = string (codes "a")
side B = string (codes "b")

-- an array with a value for each
abbrev pub list : {X : Type 0} → (X → Data) → List X → Data
list value xs = array (items_of (map value xs))

-- ---- tables

-- a key with its value
abbrev pub Row : Type 0
Row = String × Data

-- the table has each of these keys with its value; a key that is missing counts as false
abbrev pub HasRows : Members → List Row → Type 0
HasRows keys [] = Unit {0}
HasRows keys (row ∷ rows) = (unwrap_or (get_member (codes row.0) keys) (boolean false) ≡ row.1) × HasRows keys rows

-- the value is an array of tables, one for each entry in turn, with the rows of that entry
abbrev pub AreTables : {X : Type 0} → List X → (X → List Row) → Data → Type 0
AreTables [] rows (array no_items) = Unit {0}
AreTables (x ∷ xs) rows (array (item (table keys) more)) = HasRows keys (rows x) × AreTables xs rows (array more)
AreTables _ rows _ = ⊥

-- so is the value at a key of the file; an array that is missing has no tables
abbrev pub HasTables : {X : Type 0} → Members → String → List X → (X → List Row) → Type 0
HasTables file key xs rows = AreTables xs rows (unwrap_or (get_member (codes key) file) (array no_items))

-- ---- the design

-- each name once, in order of first mention
abbrev pub each_once : List (List ℕ) → List (List ℕ)
each_once [] = []
each_once (name ∷ names) = name ∷ filter (λ other. not (bytes_eq name other)) (each_once names)

-- how long a train stands at each visit in ms is said from version 3 on
abbrev pub dwell_rows : ℕ → Train → List Row
dwell_rows version t = if nat_le 3 version then ("dwell_ms", list whole t.dwell_ms) ∷ [] else []

-- the bytes are, in UTF-8, a TOML document with these keys; a section has no table, and is there where an edge names it
pub record Spells (bytes : List ℕ) (d : Station) : Type 0 where
  pub file : Members
  pub utf8 : is_utf8 bytes ≡ true
  pub toml : parse_document bytes ≡ Some file
  pub top : HasRows file (
      ("version", whole d.version) ∷ ("tick_ms", whole d.tick_ms) ∷ ("horizon_ms", whole d.horizon_ms) ∷ [])
  pub nodes : HasTables file "node" d.nodes (λ n. ("name", string n.name) ∷ ("boundary", boolean n.boundary) ∷ [])
  pub edges : HasTables file "edge" d.edges (λ e.
      ("name", string e.name)
      ∷ ("from", string (node_name d e.from.node)) ∷ ("from_side", side e.from.side)
      ∷ ("to", string (node_name d e.to.node)) ∷ ("to_side", side e.to.side)
      ∷ ("length_mm", whole e.length_mm) ∷ ("speed_mm_s", whole e.speed_mm_s)
      ∷ ("section", string (section_name d e.section)) ∷ [])
  pub sections : d.sections ≡ each_once (map (λ e. section_name d e.section) d.edges)
  pub signals : HasTables file "signal" d.signals (λ s.
      ("name", string s.name) ∷ ("node", string (node_name d s.node)) ∷ ("toward", side s.toward) ∷ [])
  pub vehicles : HasTables file "vehicle" d.vehicles (λ v.
      ("name", string v.name) ∷ ("length_mm", whole v.length_mm) ∷ ("speed_mm_s", whole v.speed_mm_s)
      ∷ ("accel_mm_s2", whole v.accel_mm_s2) ∷ ("brake_mm_s2", whole v.brake_mm_s2) ∷ [])
  pub trains : HasTables file "train" d.trains (λ t.
      ("name", string t.name) ∷ ("vehicle", string (vehicle_at d t.vehicle).name)
      ∷ ("visits", list (list (λ n. string (node_name d n))) t.visits) ∷ dwell_rows d.version t)
  pub dwells : (t : Train) → In t d.trains → d.version < 3 → t.dwell_ms ≡ map (λ visit. 0) t.visits
  pub orders : HasTables file "order" d.orders (λ o.
      ("first_train", string (train_name d o.first_train)) ∷ ("first_visit", whole o.first_visit)
      ∷ ("then_train", string (train_name d o.then_train)) ∷ ("then_visit", whole o.then_visit) ∷ [])
  pub withins : HasTables file "within" d.withins (λ w.
      ("from_train", string (train_name d w.from_train)) ∷ ("from_visit", whole w.from_visit)
      ∷ ("to_train", string (train_name d w.to_train)) ∷ ("to_visit", whole w.to_visit)
      ∷ ("max_ms", whole w.max_ms) ∷ [])
  pub overlaps : HasTables file "overlap" d.overlaps (λ o.
      ("signal", string (signal_name d o.signal))
      ∷ ("sections", list (λ z. string (section_name d z)) o.sections)
      ∷ ("hold_ms", whole o.hold_ms) ∷ [])
