-- Stations: what stands under a number, what is at an end, and numbers per tick.
use Rattle.std.specs.Prelude.{ℕ, ◌+◌, ◌-◌, ◌*◌, ◌/◌, ◌≤◌, Bool, true, false, ◌&&◌, ◌||◌, ◌==◌, if◌then◌else◌, List}
use Rattle.std.specs.Prelude.{[], map, filter, length, nat_le, find, unwrap_or}
use Rattle.rail_base.specs.declared.station.Station.{Station}
use Rattle.rail_base.specs.declared.station.Node.{Node}
use Rattle.rail_base.specs.declared.station.Edge.{Edge}
use Rattle.rail_base.specs.declared.station.Signal.{Signal}
use Rattle.rail_base.specs.declared.station.Vehicle.{Vehicle}
use Rattle.rail_base.specs.declared.station.Train.{Train}
use Rattle.rail_base.specs.declared.station.Order.{Order}
use Rattle.rail_base.specs.declared.station.Within.{Within}
use Rattle.rail_base.specs.declared.station.Overlap.{Overlap}
use Rattle.rail_base.specs.declared.station.End.{End}
use Rattle.rail_base.specs.declared.station.Side.{Side}
use Rattle.rail_base.specs.declared.station.Side.TheVariants.{A, B}
use Rattle.rail_base.specs.declared.station.NodeNo.{NodeNo}
use Rattle.rail_base.specs.declared.station.EdgeNo.{EdgeNo}
use Rattle.rail_base.specs.declared.station.SectionNo.{SectionNo}
use Rattle.rail_base.specs.declared.station.SignalNo.{SignalNo}
use Rattle.rail_base.specs.declared.station.VehicleNo.{VehicleNo}
use Rattle.rail_base.specs.declared.station.TrainNo.{TrainNo}
use Rattle.rail_base.specs.Numbering.{entry, one_to}

-- ---- sides and ends

-- the other side of a node
abbrev pub opposite : Side → Side
opposite A = B
opposite B = A

-- the two are one side
abbrev pub is_side : Side → Side → Bool
is_side A A = true
is_side B B = true
is_side _ _ = false

-- the two are one side of one node
abbrev pub is_end : End → End → Bool
is_end a b = (a.node.0 == b.node.0) && is_side a.side b.side

-- the end by which one leaves a node that was entered by this end
abbrev pub through : End → End
through end = record { node = end.node; side = opposite end.side }

-- where an edge leads from an end of it
abbrev pub far_end : Edge → End → End
far_end edge end = if is_end edge.from end then edge.to else edge.from

-- ---- entries by number, and one that stands for none

-- the end that none is
abbrev pub no_end : End
no_end = record { node = record { 0 = 0 }; side = A }

-- the node of this number
abbrev pub node_of : Station → NodeNo → Node
node_of d n = entry (record { name = []; boundary = false }) d.nodes n.0

-- the edge that none is
abbrev pub no_edge : Edge
no_edge = record { name = []; from = no_end; to = no_end; length_mm = 0; speed_mm_s = 0; section = record { 0 = 0 } }

-- the edge of this number
abbrev pub edge_of : Station → EdgeNo → Edge
edge_of d e = entry no_edge d.edges e.0

-- the signal of this number
abbrev pub signal_of : Station → SignalNo → Signal
signal_of d s = entry (record { name = []; node = record { 0 = 0 }; toward = A }) d.signals s.0

-- the vehicle that none is
abbrev pub no_vehicle : Vehicle
no_vehicle = record { name = []; length_mm = 0; accel_mm_s2 = 0; brake_mm_s2 = 0; speed_mm_s = 0 }

-- the vehicle of this number
abbrev pub vehicle_at : Station → VehicleNo → Vehicle
vehicle_at d v = entry no_vehicle d.vehicles v.0

-- the train that none is
abbrev pub no_train : Train
no_train = record { name = []; vehicle = record { 0 = 0 }; visits = []; dwell_ms = [] }

-- the train of this number
abbrev pub train_of : Station → TrainNo → Train
train_of d t = entry no_train d.trains t.0

-- the order that none is
abbrev pub no_order : Order
no_order = record { first_train = record { 0 = 0 }; first_visit = 0; then_train = record { 0 = 0 }; then_visit = 0 }

-- the order of this number
abbrev pub order_of : Station → ℕ → Order
order_of d o = entry no_order d.orders o

-- the within that none is
abbrev pub no_within : Within
no_within = record {
  from_train = record { 0 = 0 };
  from_visit = 0;
  to_train = record { 0 = 0 };
  to_visit = 0;
  max_ms = 0;
}

-- the within of this number
abbrev pub within_of : Station → ℕ → Within
within_of d w = entry no_within d.withins w

-- the overlap that none is
abbrev pub no_overlap : Overlap
no_overlap = record { signal = record { 0 = 0 }; sections = []; hold_ms = 0 }

-- the overlap at a signal, or the one that none is
abbrev pub overlap_at : Station → SignalNo → Overlap
overlap_at d s = unwrap_or (find (λ o. o.signal.0 == s.0) d.overlaps) no_overlap

-- ---- track

-- how long an edge is
abbrev pub length_of : Station → EdgeNo → ℕ
length_of d e = (edge_of d e).length_mm

-- the section of an edge
abbrev pub section_of : Station → EdgeNo → SectionNo
section_of d e = (edge_of d e).section

-- the numbers of all edges
abbrev pub edge_numbers : Station → List EdgeNo
edge_numbers d = map (λ n. record { 0 = n }) (one_to (length d.edges))

-- the edges at an end, in file order
abbrev pub leave : Station → End → List EdgeNo
leave d end = filter (λ e. is_end (edge_of d e).from end || is_end (edge_of d e).to end) (edge_numbers d)

-- ---- trains

-- the vehicle of a train
abbrev pub vehicle_of : Station → TrainNo → Vehicle
vehicle_of d t = vehicle_at d (train_of d t).vehicle

-- how long a train is
abbrev pub train_length : Station → TrainNo → ℕ
train_length d t = (vehicle_of d t).length_mm

-- the numbers of all trains
abbrev pub trains : Station → List TrainNo
trains d = map (λ n. record { 0 = n }) (one_to (length d.trains))

-- the nodes of which a train starts at one
abbrev pub first_visit : Train → List NodeNo
first_visit t = entry [] t.visits 1

-- ---- numbers per tick

-- the last tick that counts
abbrev pub horizon : Station → ℕ
horizon d = d.horizon_ms / d.tick_ms

-- mm per tick of so many mm a second
abbrev pub per_tick_speed : Station → ℕ → ℕ
per_tick_speed d v = v * d.tick_ms / 1000

-- mm per tick in a tick of so many mm a second in a second
abbrev pub per_tick_accel : Station → ℕ → ℕ
per_tick_accel d a = a * d.tick_ms * d.tick_ms / 1000000

-- so many ms in ticks, rounded up
abbrev pub whole_ticks : Station → ℕ → ℕ
whole_ticks d ms = (ms + d.tick_ms - 1) / d.tick_ms

-- how many ticks a train stands at each of its visits
abbrev pub dwell_ticks : Station → TrainNo → List ℕ
dwell_ticks d t = map (whole_ticks d) (train_of d t).dwell_ms

-- the longest time to stand at a visit, in ms: an hour from version 3 on, and none before it
abbrev pub longest_dwell : Station → ℕ
longest_dwell d = if nat_le 3 d.version then 3600000 else 0

-- how many overlaps there may be: 1,000 from version 4 on, and none before it
abbrev pub most_overlaps : Station → ℕ
most_overlaps d = if nat_le 4 d.version then 1000 else 0

-- ---- numbers that the design has

-- a node has this number
abbrev pub IsNode : Station → NodeNo → Type 0
IsNode d n = (1 ≤ n.0) × (n.0 ≤ length d.nodes)

-- an edge has this number
abbrev pub IsEdge : Station → EdgeNo → Type 0
IsEdge d e = (1 ≤ e.0) × (e.0 ≤ length d.edges)

-- a section has this number
abbrev pub IsSection : Station → SectionNo → Type 0
IsSection d z = (1 ≤ z.0) × (z.0 ≤ length d.sections)

-- a signal has this number
abbrev pub IsSignal : Station → SignalNo → Type 0
IsSignal d s = (1 ≤ s.0) × (s.0 ≤ length d.signals)

-- a vehicle has this number
abbrev pub IsVehicle : Station → VehicleNo → Type 0
IsVehicle d v = (1 ≤ v.0) × (v.0 ≤ length d.vehicles)

-- a train has this number
abbrev pub IsTrain : Station → TrainNo → Type 0
IsTrain d t = (1 ≤ t.0) × (t.0 ≤ length d.trains)

-- a train has a visit of this number
abbrev pub HasVisit : Station → TrainNo → ℕ → Type 0
HasVisit d t j = IsTrain d t × (1 ≤ j) × (j ≤ length (train_of d t).visits)
