-- The text of a design: its numbers, and then each array that has entries, with a line for each of them.
use Rattle.std.specs.Prelude.{ℕ, List, [], ◌∷◌, ◌++◌, map, codes, decimal, nat_le, if◌then◌else◌}
use Rattle.std.specs.List.{concat, flat_map}
use Rattle.design_table.specs.declared.key.Key.{Key}
use Rattle.design_table.specs.declared.key.Key.TheVariants as keys
use Rattle.design_table.specs.Keys.{key_text}
use Rattle.rail_base.specs.Names.{node_name, section_name, signal_name, train_name}
use Rattle.rail_base.specs.Stations.{vehicle_at}
use Rattle.rail_base.specs.declared.station.Station.{Station}
use Rattle.rail_base.specs.declared.station.Node.{Node}
use Rattle.rail_base.specs.declared.station.Edge.{Edge}
use Rattle.rail_base.specs.declared.station.Signal.{Signal}
use Rattle.rail_base.specs.declared.station.Vehicle.{Vehicle}
use Rattle.rail_base.specs.declared.station.Train.{Train}
use Rattle.rail_base.specs.declared.station.Order.{Order}
use Rattle.rail_base.specs.declared.station.Within.{Within}
use Rattle.rail_base.specs.declared.station.Overlap.{Overlap}
use Rattle.rail_base.specs.declared.station.NodeNo.{NodeNo}
use Rattle.rail_base.specs.declared.station.SectionNo.{SectionNo}
use Rattle.rail_base.specs.declared.station.Side.{Side}
use Rattle.rail_base.specs.declared.station.Side.TheVariants.{A, B}

-- ---- pieces

-- a text in quotes
abbrev pub in_quotes : List ℕ → List ℕ
in_quotes text = codes "\"" ++ (text ++ codes "\"")

-- a text behind a comma and a space
abbrev pub behind_comma : List ℕ → List ℕ
behind_comma text = codes ", " ++ text

-- texts in order, with a comma and a space between two of them
abbrev pub joined : List (List ℕ) → List ℕ
joined [] = []
joined (text ∷ more) = text ++ flat_map behind_comma more

-- the same in brackets
abbrev pub in_brackets : List (List ℕ) → List ℕ
in_brackets texts = codes "[" ++ (joined texts ++ codes "]")

-- a side of a node
abbrev pub side_name : Side → List ℕ
side_name A = codes "a"
side_name B = codes "b"

-- a key of an entry, and the text of its value behind an equals sign
abbrev pub field_text : Key × List ℕ → List ℕ
field_text field = key_text field.0 ++ (codes "=" ++ field.1)

-- the line of an entry with these fields
abbrev pub entry_line : List (Key × List ℕ) → List ℕ
entry_line fields = codes " {" ++ (joined (map field_text fields) ++ codes "},\n")

-- the lines of an array, if it has entries
abbrev pub array_lines : Key → List (List ℕ) → List (List ℕ)
array_lines key [] = []
array_lines key (line ∷ lines) = (key_text key ++ codes " = [\n") ∷ line ∷ lines ++ codes "]\n" ∷ []

-- the line of a number
abbrev pub number_line : Key → ℕ → List ℕ
number_line key number = key_text key ++ (codes " = " ++ (decimal number ++ codes "\n"))

-- ---- entries: the key `boundary` stands where it is true

abbrev pub node_line : Node → List ℕ
node_line n =
    if n.boundary then entry_line ((keys.Name, in_quotes n.name) ∷ (keys.Boundary, codes "true") ∷ [])
    else entry_line ((keys.Name, in_quotes n.name) ∷ [])

abbrev pub vehicle_line : Vehicle → List ℕ
vehicle_line v = entry_line (
    (keys.Name, in_quotes v.name)
    ∷ (keys.LengthMm, decimal v.length_mm)
    ∷ (keys.AccelMmS2, decimal v.accel_mm_s2)
    ∷ (keys.BrakeMmS2, decimal v.brake_mm_s2)
    ∷ (keys.SpeedMmS, decimal v.speed_mm_s)
    ∷ [])

module _ (d : Station) where
  -- a visit: the names of its nodes
  abbrev pub visit_text : List NodeNo → List ℕ
  visit_text nodes = in_brackets (map (λ n. in_quotes (node_name d n)) nodes)

  abbrev pub edge_line : Edge → List ℕ
  edge_line e = entry_line (
      (keys.Name, in_quotes e.name)
      ∷ (keys.From, in_quotes (node_name d e.from.node))
      ∷ (keys.FromSide, in_quotes (side_name e.from.side))
      ∷ (keys.To, in_quotes (node_name d e.to.node))
      ∷ (keys.ToSide, in_quotes (side_name e.to.side))
      ∷ (keys.LengthMm, decimal e.length_mm)
      ∷ (keys.SpeedMmS, decimal e.speed_mm_s)
      ∷ (keys.Section, in_quotes (section_name d e.section))
      ∷ [])

  abbrev pub signal_line : Signal → List ℕ
  signal_line s = entry_line (
      (keys.Name, in_quotes s.name)
      ∷ (keys.Node, in_quotes (node_name d s.node))
      ∷ (keys.Toward, in_quotes (side_name s.toward))
      ∷ [])

  -- the key `dwell_ms` stands from version 3 on
  abbrev pub dwell_fields : Train → List (Key × List ℕ)
  dwell_fields t = if nat_le 3 d.version then (keys.DwellMs, in_brackets (map decimal t.dwell_ms)) ∷ [] else []

  abbrev pub train_line : Train → List ℕ
  train_line t = entry_line (
      (keys.Name, in_quotes t.name)
      ∷ (keys.Vehicle, in_quotes (vehicle_at d t.vehicle).name)
      ∷ (keys.Visits, in_brackets (map visit_text t.visits))
      ∷ dwell_fields t)

  abbrev pub order_line : Order → List ℕ
  order_line o = entry_line (
      (keys.FirstTrain, in_quotes (train_name d o.first_train))
      ∷ (keys.FirstVisit, decimal o.first_visit)
      ∷ (keys.ThenTrain, in_quotes (train_name d o.then_train))
      ∷ (keys.ThenVisit, decimal o.then_visit)
      ∷ [])

  abbrev pub within_line : Within → List ℕ
  within_line w = entry_line (
      (keys.FromTrain, in_quotes (train_name d w.from_train))
      ∷ (keys.FromVisit, decimal w.from_visit)
      ∷ (keys.ToTrain, in_quotes (train_name d w.to_train))
      ∷ (keys.ToVisit, decimal w.to_visit)
      ∷ (keys.MaxMs, decimal w.max_ms)
      ∷ [])

  -- sections by their names
  abbrev pub sections_text : List SectionNo → List ℕ
  sections_text sections = in_brackets (map (λ z. in_quotes (section_name d z)) sections)

  abbrev pub overlap_line : Overlap → List ℕ
  overlap_line o = entry_line (
      (keys.Signal, in_quotes (signal_name d o.signal))
      ∷ (keys.Sections, sections_text o.sections)
      ∷ (keys.HoldMs, decimal o.hold_ms)
      ∷ [])

  -- ---- the design

  -- its lines, each with its LF
  unfoldable pub design_lines : List (List ℕ)
  design_lines =
      number_line keys.Version d.version
      ∷ number_line keys.TickMs d.tick_ms
      ∷ number_line keys.HorizonMs d.horizon_ms
      ∷ array_lines keys.Node (map node_line d.nodes)
      ++ (array_lines keys.Edge (map edge_line d.edges)
      ++ (array_lines keys.Signal (map signal_line d.signals)
      ++ (array_lines keys.Vehicle (map vehicle_line d.vehicles)
      ++ (array_lines keys.Train (map train_line d.trains)
      ++ (array_lines keys.Order (map order_line d.orders)
      ++ (array_lines keys.Within (map within_line d.withins)
      ++ array_lines keys.Overlap (map overlap_line d.overlaps)))))))

  -- and the whole text
  abbrev pub design_text : List ℕ
  design_text = concat design_lines
