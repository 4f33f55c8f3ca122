-- Stations that the reader doesn't refuse: its numbers are in range, its names are there, and its track holds together.
use Rattle.std.specs.Prelude.{◌≡◌, ℕ, ◌+◌, ◌≤◌, true, false, List, length}
use Rattle.rail_base.specs.declared.station.Station.{Station}
use Rattle.rail_base.specs.declared.station.Edge.{Edge}
use Rattle.rail_base.specs.declared.station.Node.{Node}
use Rattle.rail_base.specs.declared.station.Signal.{Signal}
use Rattle.rail_base.specs.declared.station.Vehicle.{Vehicle}
use Rattle.rail_base.specs.declared.station.Train.{Train}
use Rattle.rail_base.specs.declared.station.Order.{Order}
use Rattle.rail_base.specs.declared.station.Within.{Within}
use Rattle.rail_base.specs.declared.station.Overlap.{Overlap}
use Rattle.rail_base.specs.declared.station.Side.TheVariants.{A, B}
use Rattle.rail_base.specs.declared.station.NodeNo.{NodeNo}
use Rattle.rail_base.specs.declared.station.EdgeNo.{EdgeNo}
use Rattle.rail_base.specs.declared.station.SectionNo.{SectionNo}
use Rattle.rail_base.specs.declared.station.SignalNo.{SignalNo}
use Rattle.rail_base.specs.declared.station.VehicleNo.{VehicleNo}
use Rattle.rail_base.specs.declared.station.TrainNo.{TrainNo}
use Rattle.rail_base.specs.Numbering.{entry}
use Rattle.rail_base.specs.Members.{In, Pairs}
use Rattle.rail_base.specs.Stations.{IsNode, IsEdge, IsSection, IsSignal, IsVehicle, IsTrain, HasVisit, edge_of}
use Rattle.rail_base.specs.Stations.{node_of, signal_of, vehicle_at, leave, train_of, first_visit, per_tick_speed}
use Rattle.rail_base.specs.Stations.{per_tick_accel, horizon, longest_dwell, most_overlaps}

-- from the one to the other
abbrev pub Ranges : ℕ → ℕ → ℕ → Type 0
Ranges low high n = (low ≤ n) × (n ≤ high)

-- how many edge ends are at the sides of a node
abbrev pub ends_a : Station → NodeNo → ℕ
ends_a d n = length (leave d (record { node = n; side = A }))

-- and at side b
abbrev pub ends_b : Station → NodeNo → ℕ
ends_b d n = length (leave d (record { node = n; side = B }))

-- a node is a switch at most, and a boundary has one edge end
pub record IsGoodNode (d : Station) (n : NodeNo) : Type 0 where
  pub side_a : ends_a d n ≤ 2
  pub side_b : ends_b d n ≤ 2
  pub one_switch : ends_a d n + ends_b d n ≤ 3
  pub one_end : (node_of d n).boundary ≡ true → ends_a d n + ends_b d n ≡ 1

-- an edge joins two nodes, and its numbers are in range
pub record IsGoodEdge (d : Station) (e : Edge) : Type 0 where
  pub from : IsNode d e.from.node
  pub to : IsNode d e.to.node
  pub apart : e.from.node ≡ e.to.node → ⊥
  pub length_mm : Ranges 1 10000000 e.length_mm
  pub speed : Ranges 1 100000 e.speed_mm_s
  pub moves : 1 ≤ per_tick_speed d e.speed_mm_s
  pub section : Ranges 1 (length d.sections) e.section.0

-- a signal is at a node that is no boundary
pub record IsGoodSignal (d : Station) (s : Signal) : Type 0 where
  pub node : IsNode d s.node
  pub inside : (node_of d s.node).boundary ≡ false

-- a vehicle's numbers are in range, and none is 0 in a tick
pub record IsGoodVehicle (d : Station) (v : Vehicle) : Type 0 where
  pub length_mm : Ranges 1 2000000 v.length_mm
  pub accel : Ranges 1 100000 v.accel_mm_s2
  pub brake : Ranges 1 100000 v.brake_mm_s2
  pub speed : Ranges 1 100000 v.speed_mm_s
  pub gains : 1 ≤ per_tick_accel d v.accel_mm_s2
  pub slows : 1 ≤ per_tick_accel d v.brake_mm_s2
  pub moves : 1 ≤ per_tick_speed d v.speed_mm_s

-- a train has a vehicle, visits nodes, starts at boundaries, and has a time to stand at each visit, none at the first
pub record IsGoodTrain (d : Station) (t : Train) : Type 0 where
  pub vehicle : IsVehicle d t.vehicle
  pub visits : Ranges 1 16 (length t.visits)
  pub nodes : (set : List NodeNo) → In set t.visits → Ranges 1 64 (length set)
  pub there : (set : List NodeNo) → In set t.visits → (n : NodeNo) → In n set → IsNode d n
  pub begins : (n : NodeNo) → In n (first_visit t) → (node_of d n).boundary ≡ true
  pub dwells : length t.dwell_ms ≡ length t.visits
  pub dwell : (ms : ℕ) → In ms t.dwell_ms → ms ≤ longest_dwell d
  pub leaves_at_once : entry 0 t.dwell_ms 1 ≡ 0

-- an order is between visits
pub record IsGoodOrder (d : Station) (o : Order) : Type 0 where
  pub first_names : HasVisit d o.first_train o.first_visit
  pub after : HasVisit d o.then_train o.then_visit

-- a within is between visits
pub record IsGoodWithin (d : Station) (w : Within) : Type 0 where
  pub from : HasVisit d w.from_train w.from_visit
  pub to : HasVisit d w.to_train w.to_visit
  pub at_most_a_day : w.max_ms ≤ 86400000

-- an overlap is at a signal, and its sections are held for ten minutes at most
pub record IsGoodOverlap (d : Station) (o : Overlap) : Type 0 where
  pub signal : IsSignal d o.signal
  pub sections : Ranges 1 16 (length o.sections)
  pub there : (z : SectionNo) → In z o.sections → IsSection d z
  pub hold : o.hold_ms ≤ 600000

-- the design is one that the reader answers
pub record IsAdmitted (d : Station) : Type 0 where
  pub version : Ranges 1 4 d.version
  pub tick : Ranges 100 1000 d.tick_ms
  pub ticks : Ranges 1 86400 (horizon d)
  pub many_nodes : length d.nodes ≤ 2000
  pub many_edges : length d.edges ≤ 4000
  pub many_signals : length d.signals ≤ 1000
  pub many_vehicles : length d.vehicles ≤ 64
  pub many_trains : Ranges 1 128 (length d.trains)
  pub many_orders : length d.orders ≤ 256
  pub many_withins : length d.withins ≤ 256
  pub many_overlaps : length d.overlaps ≤ most_overlaps d
  pub node_names : Pairs (λ (a b : Node). a.name ≡ b.name → ⊥) d.nodes
  pub edge_names : Pairs (λ (a b : Edge). a.name ≡ b.name → ⊥) d.edges
  pub signal_names : Pairs (λ (a b : Signal). a.name ≡ b.name → ⊥) d.signals
  pub vehicle_names : Pairs (λ (a b : Vehicle). a.name ≡ b.name → ⊥) d.vehicles
  pub train_names : Pairs (λ (a b : Train). a.name ≡ b.name → ⊥) d.trains
  pub node : (n : NodeNo) → IsNode d n → IsGoodNode d n
  pub edge : (e : EdgeNo) → IsEdge d e → IsGoodEdge d (edge_of d e)
  pub signal : (s : SignalNo) → IsSignal d s → IsGoodSignal d (signal_of d s)
  pub signals_differ : (s q : SignalNo) → IsSignal d s → IsSignal d q
      → (signal_of d s).node ≡ (signal_of d q).node → (signal_of d s).toward ≡ (signal_of d q).toward → s ≡ q
  pub vehicle : (v : VehicleNo) → IsVehicle d v → IsGoodVehicle d (vehicle_at d v)
  pub train : (t : TrainNo) → IsTrain d t → IsGoodTrain d (train_of d t)
  pub order : (o : Order) → In o d.orders → IsGoodOrder d o
  pub within : (w : Within) → In w d.withins → IsGoodWithin d w
  pub overlap : (o : Overlap) → In o d.overlaps → IsGoodOverlap d o
  pub overlaps_differ : Pairs (λ (a b : Overlap). a.signal ≡ b.signal → ⊥) d.overlaps
