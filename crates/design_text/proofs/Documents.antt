-- What the text of a design is read as: the rows of each entry, the table of them, and the parts of the document.
use Rattle.std.proofs.Common.{ℕ, pos, nat_le, Bool, true, false, List, [], ◌∷◌, map, codes, decimal, Option, Some, None}
use Rattle.std.specs.List.{concat}
use Rattle.toml.specs.Data.{Data, string, integer, boolean, array, table, Members}
use Rattle.toml.specs.View.{items_of}
use Rattle.toml.specs.Tables.{no_nodes, close}
use Rattle.design_table.specs.declared.key.Key.{Key}
use Rattle.design_table.specs.declared.key.Key.TheVariants as keys
use Rattle.design_table.specs.Keys.{key_text}
use Rattle.rail_base.specs.Names.{node_name, section_name, signal_name, train_name}
use Rattle.rail_base.specs.Stations.{vehicle_at}
use Rattle.rail_base.specs.declared.station.Station.{Station}
use Rattle.rail_base.specs.declared.station.Node.{Node}
use Rattle.rail_base.specs.declared.station.Edge.{Edge}
use Rattle.rail_base.specs.declared.station.Signal.{Signal}
use Rattle.rail_base.specs.declared.station.Vehicle.{Vehicle}
use Rattle.rail_base.specs.declared.station.Train.{Train}
use Rattle.rail_base.specs.declared.station.Order.{Order}
use Rattle.rail_base.specs.declared.station.Within.{Within}
use Rattle.rail_base.specs.declared.station.Overlap.{Overlap}
use Rattle.rail_base.specs.declared.station.NodeNo.{NodeNo}
use Rattle.rail_base.specs.declared.station.SectionNo.{SectionNo}
use Rattle.design_text.specs.Texts.{in_quotes, in_brackets, side_name, array_lines, number_line, visit_text, sections_text, node_line, edge_line, signal_line, vehicle_line, train_line, order_line, within_line, overlap_line}
use Rattle.design_text.proofs.ReadEntries.{Row, with_rows}
use Rattle.design_text.proofs.Parts.{Part, with_parts}

-- ---- values

-- a value for each entry
abbrev pub array_of : {X : Type 0} → (X → Data) → List X → Data
array_of holds entries = array (items_of (map holds entries))

-- the same, if there are entries
abbrev pub some_array : {X : Type 0} → (X → Data) → List X → Option Data
some_array holds [] = None
some_array holds (x ∷ xs) = Some (array_of holds (x ∷ xs))

abbrev pub name_row : Key → List ℕ → Row
name_row key name = record { at = key; text = in_quotes name; holds = string name }

abbrev pub number_row : Key → ℕ → Row
number_row key number = record { at = key; text = decimal number; holds = integer (pos number) }

abbrev pub true_row : Key → Row
true_row key = record { at = key; text = codes "true"; holds = boolean true }

abbrev pub number_value : ℕ → Data
number_value number = integer (pos number)

abbrev pub numbers_row : Key → List ℕ → Row
numbers_row key numbers = record { at = key; text = in_brackets (map decimal numbers); holds = array_of number_value numbers }

-- the table of rows
abbrev pub table_of : List Row → Data
table_of rows = table (close (with_rows rows no_nodes))

-- ---- entries: the rows after the name, and all

abbrev pub node_more : Bool → List Row
node_more true = true_row keys.Boundary ∷ []
node_more false = []

abbrev pub node_table : Node → Data
node_table n = table_of (name_row keys.Name n.name ∷ node_more n.boundary)

abbrev pub vehicle_more : Vehicle → List Row
vehicle_more v = number_row keys.LengthMm v.length_mm ∷ number_row keys.AccelMmS2 v.accel_mm_s2 ∷ number_row keys.BrakeMmS2 v.brake_mm_s2 ∷ number_row keys.SpeedMmS v.speed_mm_s ∷ []

abbrev pub vehicle_table : Vehicle → Data
vehicle_table v = table_of (name_row keys.Name v.name ∷ vehicle_more v)

abbrev pub dwell_more : Bool → List ℕ → List Row
dwell_more true dwells = numbers_row keys.DwellMs dwells ∷ []
dwell_more false dwells = []

-- ---- parts of the document

abbrev pub number_part : Key → ℕ → Part
number_part key number = record { at = key_text key; holds = Some (integer (pos number)); text = number_line key number }

abbrev pub array_part : {X : Type 0} → Key → (X → List ℕ) → (X → Data) → List X → Part
array_part key line holds xs = record { at = key_text key; holds = some_array holds xs; text = concat (array_lines key (map line xs)) }

module _ (d : Station) where
  abbrev pub node_value : NodeNo → Data
  node_value n = string (node_name d n)

  abbrev pub visits_row : List (List NodeNo) → Row
  visits_row visits = record { at = keys.Visits; text = in_brackets (map (visit_text d) visits); holds = array_of (array_of node_value) visits }

  abbrev pub edge_more : Edge → List Row
  edge_more e =
      name_row keys.From (node_name d e.from.node) ∷ name_row keys.FromSide (side_name e.from.side)
      ∷ name_row keys.To (node_name d e.to.node) ∷ name_row keys.ToSide (side_name e.to.side)
      ∷ number_row keys.LengthMm e.length_mm ∷ number_row keys.SpeedMmS e.speed_mm_s ∷ name_row keys.Section (section_name d e.section) ∷ []

  abbrev pub edge_table : Edge → Data
  edge_table e = table_of (name_row keys.Name e.name ∷ edge_more e)

  abbrev pub signal_more : Signal → List Row
  signal_more s = name_row keys.Node (node_name d s.node) ∷ name_row keys.Toward (side_name s.toward) ∷ []

  abbrev pub signal_table : Signal → Data
  signal_table s = table_of (name_row keys.Name s.name ∷ signal_more s)

  abbrev pub train_more : Train → List Row
  train_more t = name_row keys.Vehicle (vehicle_at d t.vehicle).name ∷ visits_row t.visits ∷ dwell_more (nat_le 3 d.version) t.dwell_ms

  abbrev pub train_table : Train → Data
  train_table t = table_of (name_row keys.Name t.name ∷ train_more t)

  abbrev pub order_more : Order → List Row
  order_more o = number_row keys.FirstVisit o.first_visit ∷ name_row keys.ThenTrain (train_name d o.then_train) ∷ number_row keys.ThenVisit o.then_visit ∷ []

  abbrev pub order_table : Order → Data
  order_table o = table_of (name_row keys.FirstTrain (train_name d o.first_train) ∷ order_more o)

  abbrev pub within_more : Within → List Row
  within_more w =
      number_row keys.FromVisit w.from_visit ∷ name_row keys.ToTrain (train_name d w.to_train) ∷ number_row keys.ToVisit w.to_visit ∷ number_row keys.MaxMs w.max_ms ∷ []

  abbrev pub within_table : Within → Data
  within_table w = table_of (name_row keys.FromTrain (train_name d w.from_train) ∷ within_more w)

  abbrev pub section_value : SectionNo → Data
  section_value z = string (section_name d z)

  abbrev pub sections_row : List SectionNo → Row
  sections_row sections = record { at = keys.Sections; text = sections_text d sections; holds = array_of section_value sections }

  abbrev pub overlap_more : Overlap → List Row
  overlap_more o = sections_row o.sections ∷ number_row keys.HoldMs o.hold_ms ∷ []

  abbrev pub overlap_table : Overlap → Data
  overlap_table o = table_of (name_row keys.Signal (signal_name d o.signal) ∷ overlap_more o)

  -- ---- the document

  abbrev pub first_part : Part
  first_part = number_part keys.Version d.version

  abbrev pub more_parts : List Part
  more_parts =
      number_part keys.TickMs d.tick_ms
      ∷ number_part keys.HorizonMs d.horizon_ms
      ∷ array_part keys.Node node_line node_table d.nodes
      ∷ array_part keys.Edge (edge_line d) edge_table d.edges
      ∷ array_part keys.Signal (signal_line d) signal_table d.signals
      ∷ array_part keys.Vehicle vehicle_line vehicle_table d.vehicles
      ∷ array_part keys.Train (train_line d) train_table d.trains
      ∷ array_part keys.Order (order_line d) order_table d.orders
      ∷ array_part keys.Within (within_line d) within_table d.withins
      ∷ array_part keys.Overlap (overlap_line d) overlap_table d.overlaps
      ∷ []

  unfoldable pub document : Members
  document = close (with_parts (first_part ∷ more_parts) no_nodes)
