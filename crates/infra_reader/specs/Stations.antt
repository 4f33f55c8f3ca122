-- The station in a sheet: names become numbers.
use Rattle.std.specs.Prelude.{ℕ, ℤ, pos, negsuc, List, map, Option, Some, None, nat_lt, if◌then◌else◌}
use Rattle.design_table.specs.declared.sheet.Side.TheVariants as parsed
use Rattle.design_table.specs.declared.sheet.Side as table
use Rattle.design_table.specs.Parsed.{ParsedNode, ParsedEdge, ParsedSignal, ParsedVehicle, ParsedTrain}
use Rattle.design_table.specs.Parsed.{ParsedOrder, ParsedWithin, ParsedOverlap, ParsedSheet}
use Rattle.rail_base.specs.declared.station.Station.{Station}
use Rattle.rail_base.specs.declared.station.Node.{Node}
use Rattle.rail_base.specs.declared.station.Edge.{Edge}
use Rattle.rail_base.specs.declared.station.End.{End}
use Rattle.rail_base.specs.declared.station.NodeNo.{NodeNo}
use Rattle.rail_base.specs.declared.station.SectionNo.{SectionNo}
use Rattle.rail_base.specs.declared.station.Side.{Side}
use Rattle.rail_base.specs.declared.station.Side.TheVariants.{A, B}
use Rattle.rail_base.specs.declared.station.Signal.{Signal}
use Rattle.rail_base.specs.declared.station.Vehicle.{Vehicle}
use Rattle.rail_base.specs.declared.station.Train.{Train}
use Rattle.rail_base.specs.declared.station.Order.{Order}
use Rattle.rail_base.specs.declared.station.Within.{Within}
use Rattle.rail_base.specs.declared.station.Overlap.{Overlap}
use Rattle.infra_reader.specs.Names.{Names, names_of, number_in}

-- A whole number of 32 bits. One that has more stands as 0: as a number it is refused, and no visit has it.
abbrev pub number_32 : ℤ → ℕ
number_32 (pos n) = if nat_lt n 4294967296 then n else 0
number_32 (negsuc n) = 0

-- a side
abbrev pub side_of : table.Side → Side
side_of parsed.A = A
side_of parsed.B = B

-- a side of the node of this name
abbrev pub end_in : Names → List ℕ → table.Side → End
end_in names node side = record { node = record { 0 = number_in names.nodes node }; side = side_of side }

abbrev pub node_in : Names → ParsedNode → Node
node_in names n = record { name = n.name; boundary = n.boundary }

abbrev pub edge_in : Names → ParsedEdge → Edge
edge_in names e = record {
  name = e.name;
  from = end_in names e.from e.from_side;
  to = end_in names e.to e.to_side;
  length_mm = number_32 e.length_mm;
  speed_mm_s = number_32 e.speed_mm_s;
  section = record { 0 = number_in names.sections e.section };
}

abbrev pub signal_in : Names → ParsedSignal → Signal
signal_in names s = record {
  name = s.name;
  node = record { 0 = number_in names.nodes s.node };
  toward = side_of s.toward;
}

abbrev pub vehicle_in : Names → ParsedVehicle → Vehicle
vehicle_in names v = record {
  name = v.name;
  length_mm = number_32 v.length_mm;
  accel_mm_s2 = number_32 v.accel_mm_s2;
  brake_mm_s2 = number_32 v.brake_mm_s2;
  speed_mm_s = number_32 v.speed_mm_s;
}

-- the nodes of these names
abbrev pub nodes_in : List (List ℕ) → List (List ℕ) → List NodeNo
nodes_in names visit = map (λ node. record { 0 = number_in names node }) visit

-- how long a train stands at each visit in ms: what is said, or else 0 at each
abbrev pub dwells_in : {V : Type 0} → List V → Option (List ℤ) → List ℕ
dwells_in visits None = map (λ visit. 0) visits
dwells_in visits (Some dwells) = map number_32 dwells

abbrev pub train_in : Names → ParsedTrain → Train
train_in names t = record {
  name = t.name;
  vehicle = record { 0 = number_in names.vehicles t.vehicle };
  visits = map (nodes_in names.nodes) t.visits;
  dwell_ms = dwells_in t.visits t.dwell_ms;
}

abbrev pub order_in : Names → ParsedOrder → Order
order_in names o = record {
  first_train = record { 0 = number_in names.trains o.first_train };
  first_visit = number_32 o.first_visit;
  then_train = record { 0 = number_in names.trains o.then_train };
  then_visit = number_32 o.then_visit;
}

abbrev pub within_in : Names → ParsedWithin → Within
within_in names w = record {
  from_train = record { 0 = number_in names.trains w.from_train };
  from_visit = number_32 w.from_visit;
  to_train = record { 0 = number_in names.trains w.to_train };
  to_visit = number_32 w.to_visit;
  max_ms = number_32 w.max_ms;
}

-- the sections of these names
abbrev pub sections_in : List (List ℕ) → List (List ℕ) → List SectionNo
sections_in names sections = map (λ section. record { 0 = number_in names section }) sections

abbrev pub overlap_in : Names → ParsedOverlap → Overlap
overlap_in names o = record {
  signal = record { 0 = number_in names.signals o.signal };
  sections = sections_in names.sections o.sections;
  hold_ms = number_32 o.hold_ms;
}

-- the entries in the order of the file, by the numbers of these names
abbrev pub station_in : Names → ParsedSheet → Station
station_in names s = record {
  version = number_32 s.version;
  tick_ms = number_32 s.tick_ms;
  horizon_ms = number_32 s.horizon_ms;
  nodes = map (node_in names) s.nodes;
  edges = map (edge_in names) s.edges;
  sections = names.sections;
  signals = map (signal_in names) s.signals;
  vehicles = map (vehicle_in names) s.vehicles;
  trains = map (train_in names) s.trains;
  orders = map (order_in names) s.orders;
  withins = map (within_in names) s.withins;
  overlaps = map (overlap_in names) s.overlaps;
}

-- the station, by the numbers of the sheet's own names
abbrev pub station_of : ParsedSheet → Station
station_of s = station_in (names_of s) s
