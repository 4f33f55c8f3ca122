-- The test whether a design is admitted.
use Rattle.std.specs.Prelude.{ℕ, ◌+◌, Bool, not, ◌&&◌, ◌||◌, ◌==◌, List, [], ◌∷◌, map, length, nat_le, bytes_eq}
use Rattle.std.specs.List.{list_all}
use Rattle.rail_base.specs.declared.station.Station.{Station}
use Rattle.rail_base.specs.declared.station.Edge.{Edge}
use Rattle.rail_base.specs.declared.station.Node.{Node}
use Rattle.rail_base.specs.declared.station.Signal.{Signal}
use Rattle.rail_base.specs.declared.station.Vehicle.{Vehicle}
use Rattle.rail_base.specs.declared.station.Train.{Train}
use Rattle.rail_base.specs.declared.station.Order.{Order}
use Rattle.rail_base.specs.declared.station.Within.{Within}
use Rattle.rail_base.specs.declared.station.Overlap.{Overlap}
use Rattle.rail_base.specs.declared.station.NodeNo.{NodeNo}
use Rattle.rail_base.specs.declared.station.TrainNo.{TrainNo}
use Rattle.rail_base.specs.declared.station.VehicleNo.{VehicleNo}
use Rattle.rail_base.specs.Numbering.{entry, one_to}
use Rattle.rail_base.specs.Members.{all_pairs}
use Rattle.rail_base.specs.Stations.{is_side, node_of, train_of, first_visit, per_tick_speed, per_tick_accel, horizon}
use Rattle.rail_base.specs.Stations.{longest_dwell, most_overlaps}
use Rattle.rail_base.specs.Admitted.{ends_a, ends_b}

-- from the one to the other
abbrev pub is_from : ℕ → ℕ → ℕ → Bool
is_from low high n = nat_le low n && nat_le n high

-- ---- names

-- a letter, a digit, `_` or `-`
abbrev pub is_name_byte : ℕ → Bool
is_name_byte b = is_from 48 57 b || is_from 65 90 b || is_from 97 122 b || (b == 95) || (b == 45)

-- 1 to 32 of them
abbrev pub is_name : List ℕ → Bool
is_name name = is_from 1 32 (length name) && list_all is_name_byte name

-- names, of which no two are the same
abbrev pub are_names : List (List ℕ) → Bool
are_names names = list_all is_name names && all_pairs (λ a b. not (bytes_eq a b)) names

-- ---- numbers of nodes, vehicles, trains and visits

-- a node has this number
abbrev pub is_node : Station → NodeNo → Bool
is_node d n = is_from 1 (length d.nodes) n.0

-- a vehicle has this number
abbrev pub is_vehicle : Station → VehicleNo → Bool
is_vehicle d v = is_from 1 (length d.vehicles) v.0

-- the train has a visit of this number
abbrev pub is_visit : Station → TrainNo → ℕ → Bool
is_visit d t j = is_from 1 (length d.trains) t.0 && is_from 1 (length (train_of d t).visits) j

-- ---- entries

-- at most two edge ends at a side and three in all, and one at a boundary
abbrev pub is_good_node : Station → NodeNo → Bool
is_good_node d n = nat_le (ends_a d n) 2 && nat_le (ends_b d n) 2 && nat_le (ends_a d n + ends_b d n) 3
    && (not (node_of d n).boundary || (ends_a d n + ends_b d n == 1))

-- between two nodes, with numbers in range
abbrev pub is_good_edge : Station → Edge → Bool
is_good_edge d e = is_node d e.from.node && is_node d e.to.node && not (e.from.node.0 == e.to.node.0)
    && is_from 1 10000000 e.length_mm && is_from 1 100000 e.speed_mm_s && nat_le 1 (per_tick_speed d e.speed_mm_s)
    && is_from 1 (length d.sections) e.section.0

-- sections are numbered from 1 by their first edges, so many being known before
abbrev pub are_numbered : ℕ → ℕ → List Edge → Bool
are_numbered total known [] = known == total
are_numbered total known (e ∷ es) =
    let old = are_numbered total known es in
    let new = are_numbered total (known + 1) es in
    (nat_le e.section.0 known && old) || (e.section.0 == known + 1) && new

-- at a node that is no boundary
abbrev pub is_good_signal : Station → Signal → Bool
is_good_signal d s = is_node d s.node && not (node_of d s.node).boundary

-- signals at different nodes, or for different sides
abbrev pub are_apart : Signal → Signal → Bool
are_apart s q = not ((s.node.0 == q.node.0) && is_side s.toward q.toward)

-- numbers in range, none of them 0 in a tick
abbrev pub is_good_vehicle : Station → Vehicle → Bool
is_good_vehicle d v = is_from 1 2000000 v.length_mm
    && is_from 1 100000 v.accel_mm_s2 && is_from 1 100000 v.brake_mm_s2 && is_from 1 100000 v.speed_mm_s
    && nat_le 1 (per_tick_accel d v.accel_mm_s2) && nat_le 1 (per_tick_accel d v.brake_mm_s2)
    && nat_le 1 (per_tick_speed d v.speed_mm_s)

-- 1 to 64 nodes
abbrev pub is_good_set : Station → List NodeNo → Bool
is_good_set d set = is_from 1 64 (length set) && list_all (is_node d) set

-- a time to stand at each visit, in range, and 0 at the first
abbrev pub are_good_dwells : Station → Train → Bool
are_good_dwells d t = (length t.dwell_ms == length t.visits) && list_all (λ ms. nat_le ms (longest_dwell d)) t.dwell_ms
    && (entry 0 t.dwell_ms 1 == 0)

-- a vehicle, 1 to 16 visits, the first at boundaries, and times to stand at them
abbrev pub is_good_train : Station → Train → Bool
is_good_train d t = is_vehicle d t.vehicle && is_from 1 16 (length t.visits) && list_all (is_good_set d) t.visits
    && list_all (λ n. (node_of d n).boundary) (first_visit t) && are_good_dwells d t

-- between two visits
abbrev pub is_good_order : Station → Order → Bool
is_good_order d o = is_visit d o.first_train o.first_visit && is_visit d o.then_train o.then_visit

-- between two visits
abbrev pub is_good_within : Station → Within → Bool
is_good_within d w = is_visit d w.from_train w.from_visit && is_visit d w.to_train w.to_visit
    && nat_le w.max_ms 86400000

-- at a signal, 1 to 16 sections that are held for ten minutes at most
abbrev pub is_good_overlap : Station → Overlap → Bool
is_good_overlap d o = is_from 1 (length d.signals) o.signal.0 && is_from 1 16 (length o.sections)
    && list_all (λ z. is_from 1 (length d.sections) z.0) o.sections && nat_le o.hold_ms 600000

-- ---- the design

-- how many entries there may be
abbrev pub are_few : Station → Bool
are_few d = nat_le (length d.nodes) 2000 && nat_le (length d.edges) 4000 && nat_le (length d.signals) 1000
    && nat_le (length d.vehicles) 64 && is_from 1 128 (length d.trains) && nat_le (length d.orders) 256
    && nat_le (length d.withins) 256

-- the version, the tick and the horizon
abbrev pub is_timed : Station → Bool
is_timed d = is_from 1 4 d.version && is_from 100 1000 d.tick_ms && is_from 1 86400 (horizon d)

-- the names in each array
abbrev pub are_named : Station → Bool
are_named d = are_names (map (λ (n : Node). n.name) d.nodes) && are_names (map (λ (e : Edge). e.name) d.edges)
    && are_names d.sections && are_names (map (λ (s : Signal). s.name) d.signals)
    && are_names (map (λ (v : Vehicle). v.name) d.vehicles) && are_names (map (λ (t : Train). t.name) d.trains)

-- nodes, edges, sections and signals
abbrev pub is_sound_track : Station → Bool
is_sound_track d = list_all (is_good_node d) (map (λ n. record { 0 = n }) (one_to (length d.nodes)))
    && list_all (is_good_edge d) d.edges && are_numbered (length d.sections) 0 d.edges
    && list_all (is_good_signal d) d.signals && all_pairs are_apart d.signals

-- vehicles, trains and what is asked of them
abbrev pub is_sound_traffic : Station → Bool
is_sound_traffic d = list_all (is_good_vehicle d) d.vehicles && list_all (is_good_train d) d.trains
    && list_all (is_good_order d) d.orders && list_all (is_good_within d) d.withins

-- overlaps: so many at most, and no two at one signal
abbrev pub are_sound_overlaps : Station → Bool
are_sound_overlaps d = nat_le (length d.overlaps) (most_overlaps d) && list_all (is_good_overlap d) d.overlaps
    && all_pairs (λ a b. not (a.signal.0 == b.signal.0)) d.overlaps

-- the reader has nothing to refuse
abbrev pub is_admitted : Station → Bool
is_admitted d = are_few d && is_timed d && are_named d && is_sound_track d && is_sound_traffic d && are_sound_overlaps d
