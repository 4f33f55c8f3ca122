-- A design as its document has it: names are lists of bytes, and numbers are any whole numbers. Each kind of entry has
-- what it holds, what the values at its keys spell, and what the struct of the code stands for.
use Rattle.std.specs.Prelude.{ℕ, ℤ, Bool, List, map, Option, option_map}
use Rattle.toml.specs.Data.{Data}
use Rattle.design_table.specs.declared.key.Key.{Key}
use Rattle.design_table.specs.declared.key.Key.TheVariants as keys
use Rattle.design_table.specs.declared.sheet.Side.{Side}
use Rattle.design_table.specs.declared.sheet.NodeEntry.{NodeEntry}
use Rattle.design_table.specs.declared.sheet.EdgeEntry.{EdgeEntry}
use Rattle.design_table.specs.declared.sheet.SignalEntry.{SignalEntry}
use Rattle.design_table.specs.declared.sheet.VehicleEntry.{VehicleEntry}
use Rattle.design_table.specs.declared.sheet.TrainEntry.{TrainEntry}
use Rattle.design_table.specs.declared.sheet.OrderEntry.{OrderEntry}
use Rattle.design_table.specs.declared.sheet.WithinEntry.{WithinEntry}
use Rattle.design_table.specs.declared.sheet.OverlapEntry.{OverlapEntry}
use Rattle.design_table.specs.declared.sheet.Sheet.{Sheet}
use Rattle.design_table.specs.Forms.{name_of, names_of, side_of, whole_of, wholes_of, flag_of, visits_of}
use Rattle.design_table.specs.Texts.{texts, visits_seen}

-- the value at each key of an entry, if there is one
abbrev pub Values : Type 0
Values = Key → Option Data

-- a node, which may be a boundary
pub record ParsedNode : Type 0 where
  pub name : List ℕ
  pub boundary : Bool

abbrev pub node_of : Values → ParsedNode
node_of value = record {
  name = name_of (value keys.Name);
  boundary = flag_of (value keys.Boundary);
}

abbrev pub node_seen : NodeEntry → ParsedNode
node_seen n = record { name = n.name.now; boundary = n.boundary }

-- an edge between two sides of nodes
pub record ParsedEdge : Type 0 where
  pub name : List ℕ
  pub from : List ℕ
  pub from_side : Side
  pub to : List ℕ
  pub to_side : Side
  pub length_mm : ℤ
  pub speed_mm_s : ℤ
  pub section : List ℕ

abbrev pub edge_of : Values → ParsedEdge
edge_of value = record {
  name = name_of (value keys.Name);
  from = name_of (value keys.From);
  from_side = side_of (value keys.FromSide);
  to = name_of (value keys.To);
  to_side = side_of (value keys.ToSide);
  length_mm = whole_of (value keys.LengthMm);
  speed_mm_s = whole_of (value keys.SpeedMmS);
  section = name_of (value keys.Section);
}

abbrev pub edge_seen : EdgeEntry → ParsedEdge
edge_seen e = record {
  name = e.name.now;
  from = e.from.now;
  from_side = e.from_side;
  to = e.to.now;
  to_side = e.to_side;
  length_mm = e.length_mm;
  speed_mm_s = e.speed_mm_s;
  section = e.section.now;
}

-- a signal at a node, for trains that leave it by one side
pub record ParsedSignal : Type 0 where
  pub name : List ℕ
  pub node : List ℕ
  pub toward : Side

abbrev pub signal_of : Values → ParsedSignal
signal_of value = record {
  name = name_of (value keys.Name);
  node = name_of (value keys.Node);
  toward = side_of (value keys.Toward);
}

abbrev pub signal_seen : SignalEntry → ParsedSignal
signal_seen s = record { name = s.name.now; node = s.node.now; toward = s.toward }

-- a kind of vehicle
pub record ParsedVehicle : Type 0 where
  pub name : List ℕ
  pub length_mm : ℤ
  pub accel_mm_s2 : ℤ
  pub brake_mm_s2 : ℤ
  pub speed_mm_s : ℤ

abbrev pub vehicle_of : Values → ParsedVehicle
vehicle_of value = record {
  name = name_of (value keys.Name);
  length_mm = whole_of (value keys.LengthMm);
  accel_mm_s2 = whole_of (value keys.AccelMmS2);
  brake_mm_s2 = whole_of (value keys.BrakeMmS2);
  speed_mm_s = whole_of (value keys.SpeedMmS);
}

abbrev pub vehicle_seen : VehicleEntry → ParsedVehicle
vehicle_seen v = record {
  name = v.name.now;
  length_mm = v.length_mm;
  accel_mm_s2 = v.accel_mm_s2;
  brake_mm_s2 = v.brake_mm_s2;
  speed_mm_s = v.speed_mm_s;
}

-- a train, with the names of the nodes of each visit, and how long it stands at each, where that is said
pub record ParsedTrain : Type 0 where
  pub name : List ℕ
  pub vehicle : List ℕ
  pub visits : List (List (List ℕ))
  pub dwell_ms : Option (List ℤ)

abbrev pub train_of : Values → ParsedTrain
train_of value = record {
  name = name_of (value keys.Name);
  vehicle = name_of (value keys.Vehicle);
  visits = visits_of (value keys.Visits);
  dwell_ms = wholes_of (value keys.DwellMs);
}

abbrev pub train_seen : TrainEntry → ParsedTrain
train_seen t = record {
  name = t.name.now;
  vehicle = t.vehicle.now;
  visits = visits_seen t.visits.items;
  dwell_ms = option_map (λ numbers. numbers.items) t.dwell_ms;
}

-- one visit is to come before another
pub record ParsedOrder : Type 0 where
  pub first_train : List ℕ
  pub first_visit : ℤ
  pub then_train : List ℕ
  pub then_visit : ℤ

abbrev pub order_of : Values → ParsedOrder
order_of value = record {
  first_train = name_of (value keys.FirstTrain);
  first_visit = whole_of (value keys.FirstVisit);
  then_train = name_of (value keys.ThenTrain);
  then_visit = whole_of (value keys.ThenVisit);
}

abbrev pub order_seen : OrderEntry → ParsedOrder
order_seen o = record {
  first_train = o.first_train.now;
  first_visit = o.first_visit;
  then_train = o.then_train.now;
  then_visit = o.then_visit;
}

-- one visit is to come at most so many milliseconds after another
pub record ParsedWithin : Type 0 where
  pub from_train : List ℕ
  pub from_visit : ℤ
  pub to_train : List ℕ
  pub to_visit : ℤ
  pub max_ms : ℤ

abbrev pub within_of : Values → ParsedWithin
within_of value = record {
  from_train = name_of (value keys.FromTrain);
  from_visit = whole_of (value keys.FromVisit);
  to_train = name_of (value keys.ToTrain);
  to_visit = whole_of (value keys.ToVisit);
  max_ms = whole_of (value keys.MaxMs);
}

abbrev pub within_seen : WithinEntry → ParsedWithin
within_seen w = record {
  from_train = w.from_train.now;
  from_visit = w.from_visit;
  to_train = w.to_train.now;
  to_visit = w.to_visit;
  max_ms = w.max_ms;
}

-- the sections that are kept free behind a signal, for so many milliseconds after a train's arrival there
pub record ParsedOverlap : Type 0 where
  pub signal : List ℕ
  pub sections : List (List ℕ)
  pub hold_ms : ℤ

abbrev pub overlap_of : Values → ParsedOverlap
overlap_of value = record {
  signal = name_of (value keys.Signal);
  sections = names_of (value keys.Sections);
  hold_ms = whole_of (value keys.HoldMs);
}

abbrev pub overlap_seen : OverlapEntry → ParsedOverlap
overlap_seen o = record { signal = o.signal.now; sections = texts o.sections.items; hold_ms = o.hold_ms }

-- the whole design, its entries in the order of the document
pub record ParsedSheet : Type 0 where
  pub version : ℤ
  pub tick_ms : ℤ
  pub horizon_ms : ℤ
  pub nodes : List ParsedNode
  pub edges : List ParsedEdge
  pub signals : List ParsedSignal
  pub vehicles : List ParsedVehicle
  pub trains : List ParsedTrain
  pub orders : List ParsedOrder
  pub withins : List ParsedWithin
  pub overlaps : List ParsedOverlap

-- the entries in the order of the file
abbrev pub sheet_seen : Sheet → ParsedSheet
sheet_seen s = record {
  version = s.version;
  tick_ms = s.tick_ms;
  horizon_ms = s.horizon_ms;
  nodes = map node_seen s.nodes.items;
  edges = map edge_seen s.edges.items;
  signals = map signal_seen s.signals.items;
  vehicles = map vehicle_seen s.vehicles.items;
  trains = map train_seen s.trains.items;
  orders = map order_seen s.orders.items;
  withins = map within_seen s.withins.items;
  overlaps = map overlap_seen s.overlaps.items;
}
