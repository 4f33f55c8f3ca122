-- What an admitted design passes.
use Rattle.std.proofs.Common.{◌≡◌, ℕ, ◌+◌, ◌<◌, ◌≤◌, Bool, true, false, ◌&&◌, if◌then◌else◌, eqb-true, ◌||◌, ◌==◌, not, nat_le, List, [], ◌∷◌, length, map, refl, subst, arith, leb-true}
use Rattle.std.specs.List.{list_all}
use Rattle.rail_base.specs.declared.station.Station.{Station}
use Rattle.rail_base.specs.declared.station.Node.{Node}
use Rattle.rail_base.specs.declared.station.Edge.{Edge}
use Rattle.rail_base.specs.declared.station.Signal.{Signal}
use Rattle.rail_base.specs.declared.station.Vehicle.{Vehicle}
use Rattle.rail_base.specs.declared.station.Train.{Train}
use Rattle.rail_base.specs.declared.station.Order.{Order}
use Rattle.rail_base.specs.declared.station.Within.{Within}
use Rattle.rail_base.specs.declared.station.Overlap.{Overlap}
use Rattle.rail_base.specs.declared.station.NodeNo.{NodeNo}
use Rattle.rail_base.specs.declared.station.SectionNo.{SectionNo}
use Rattle.rail_base.specs.declared.station.TrainNo.{TrainNo}
use Rattle.rail_base.specs.Numbering.{entry, one_to}
use Rattle.rail_base.specs.Members.{In, all_pairs}
use Rattle.rail_base.specs.Stations.{node_of, train_of, first_visit, horizon, longest_dwell, most_overlaps, per_tick_speed, per_tick_accel}
use Rattle.rail_base.specs.Admitted.{Ranges, ends_a, ends_b}
use Rattle.rail_base.specs.Admission.{is_from, is_name, are_names, is_node, is_vehicle, is_visit, is_good_set, is_good_node, is_good_edge, are_numbered, is_good_signal, are_apart, is_good_vehicle, are_good_dwells, is_good_train, is_good_order, is_good_within, is_good_overlap, are_few, is_timed, are_named, is_sound_track, is_sound_traffic, are_sound_overlaps, is_admitted}
use Rattle.rail_base.proofs.Members.{and_left, and_right, list_all_at}
use Rattle.rail_base.proofs.Lists.{in_map, in_count}
use Rattle.infra_reader.proofs.Apart.{names_apart}
use Rattle.design_text.proofs.Splitting.{two, three, four, five, six, seven}

pub ranged : (low high n : ℕ) → is_from low high n ≡ true → Ranges low high n
ranged low high n h = let f = two (nat_le low n) (nat_le n high) h in (leb-true low n f.0, leb-true n high f.1)

-- names that pass are names, and distinct
pub are_all_names : (names : List (List ℕ)) → are_names names ≡ true → list_all is_name names ≡ true
are_all_names names h = let f = two (list_all is_name names) (all_pairs names_apart names) h in f.0

pub are_distinct : (names : List (List ℕ)) → are_names names ≡ true → all_pairs names_apart names ≡ true
are_distinct names h = let f = two (list_all is_name names) (all_pairs names_apart names) h in f.1

-- a section has this number
abbrev pub is_section : Station → SectionNo → Bool
is_section d z = is_from 1 (length d.sections) z.0

-- at two signals
abbrev pub overlaps_differ : Overlap → Overlap → Bool
overlaps_differ a b = not (a.signal.0 == b.signal.0)

module _ (d : Station) where
  -- ---- names

  abbrev pub node_names : List (List ℕ)
  node_names = map (λ (n : Node). n.name) d.nodes

  abbrev pub edge_names : List (List ℕ)
  edge_names = map (λ (e : Edge). e.name) d.edges

  abbrev pub signal_names : List (List ℕ)
  signal_names = map (λ (s : Signal). s.name) d.signals

  abbrev pub vehicle_names : List (List ℕ)
  vehicle_names = map (λ (v : Vehicle). v.name) d.vehicles

  abbrev pub train_names : List (List ℕ)
  train_names = map (λ (t : Train). t.name) d.trains

  -- ---- the parts of an entry's test

  pub edge_parts : (e : Edge) → is_good_edge d e ≡ true → (is_node d e.from.node ≡ true) × (is_node d e.to.node ≡ true) × (not (e.from.node.0 == e.to.node.0) ≡ true) × (is_from 1 10000000 e.length_mm ≡ true) × (is_from 1 100000 e.speed_mm_s ≡ true)
      × (nat_le 1 (per_tick_speed d e.speed_mm_s) ≡ true) × (is_from 1 (length d.sections) e.section.0 ≡ true)
  edge_parts e h = seven (is_node d e.from.node) (is_node d e.to.node) (not (e.from.node.0 == e.to.node.0)) (is_from 1 10000000 e.length_mm) (is_from 1 100000 e.speed_mm_s) (nat_le 1 (per_tick_speed d e.speed_mm_s)) (is_from 1 (length d.sections) e.section.0) h

  pub vehicle_parts : (v : Vehicle) → is_good_vehicle d v ≡ true → (is_from 1 2000000 v.length_mm ≡ true) × (is_from 1 100000 v.accel_mm_s2 ≡ true) × (is_from 1 100000 v.brake_mm_s2 ≡ true) × (is_from 1 100000 v.speed_mm_s ≡ true)
      × (nat_le 1 (per_tick_accel d v.accel_mm_s2) ≡ true) × (nat_le 1 (per_tick_accel d v.brake_mm_s2) ≡ true) × (nat_le 1 (per_tick_speed d v.speed_mm_s) ≡ true)
  vehicle_parts v h = seven (is_from 1 2000000 v.length_mm) (is_from 1 100000 v.accel_mm_s2) (is_from 1 100000 v.brake_mm_s2) (is_from 1 100000 v.speed_mm_s) (nat_le 1 (per_tick_accel d v.accel_mm_s2)) (nat_le 1 (per_tick_accel d v.brake_mm_s2)) (nat_le 1 (per_tick_speed d v.speed_mm_s)) h

  pub train_parts : (t : Train) → is_good_train d t ≡ true → (is_vehicle d t.vehicle ≡ true) × (is_from 1 16 (length t.visits) ≡ true) × (list_all (is_good_set d) t.visits ≡ true) × (list_all (λ n. (node_of d n).boundary) (first_visit t) ≡ true) × (are_good_dwells d t ≡ true)
  train_parts t h = five (is_vehicle d t.vehicle) (is_from 1 16 (length t.visits)) (list_all (is_good_set d) t.visits) (list_all (λ n. (node_of d n).boundary) (first_visit t)) (are_good_dwells d t) h

  pub dwell_parts : (t : Train) → are_good_dwells d t ≡ true → ((length t.dwell_ms == length t.visits) ≡ true) × (list_all (λ ms. nat_le ms (longest_dwell d)) t.dwell_ms ≡ true) × ((entry 0 t.dwell_ms 1 == 0) ≡ true)
  dwell_parts t h = three (length t.dwell_ms == length t.visits) (list_all (λ ms. nat_le ms (longest_dwell d)) t.dwell_ms) (entry 0 t.dwell_ms 1 == 0) h

  pub signal_parts : (s : Signal) → is_good_signal d s ≡ true → (is_node d s.node ≡ true) × (not (node_of d s.node).boundary ≡ true)
  signal_parts s h = two (is_node d s.node) (not (node_of d s.node).boundary) h

  pub set_parts : (set : List NodeNo) → is_good_set d set ≡ true → (is_from 1 64 (length set) ≡ true) × (list_all (is_node d) set ≡ true)
  set_parts set h = two (is_from 1 64 (length set)) (list_all (is_node d) set) h

  pub visit_parts : (t : TrainNo) (j : ℕ) → is_visit d t j ≡ true → (is_from 1 (length d.trains) t.0 ≡ true) × (is_from 1 (length (train_of d t).visits) j ≡ true)
  visit_parts t j h = two (is_from 1 (length d.trains) t.0) (is_from 1 (length (train_of d t).visits) j) h

  pub order_parts : (o : Order) → is_good_order d o ≡ true → (is_visit d o.first_train o.first_visit ≡ true) × (is_visit d o.then_train o.then_visit ≡ true)
  order_parts o h = two (is_visit d o.first_train o.first_visit) (is_visit d o.then_train o.then_visit) h

  pub within_parts : (w : Within) → is_good_within d w ≡ true → (is_visit d w.from_train w.from_visit ≡ true) × (is_visit d w.to_train w.to_visit ≡ true) × (nat_le w.max_ms 86400000 ≡ true)
  within_parts w h = three (is_visit d w.from_train w.from_visit) (is_visit d w.to_train w.to_visit) (nat_le w.max_ms 86400000) h

  pub overlap_parts : (o : Overlap) → is_good_overlap d o ≡ true → (is_from 1 (length d.signals) o.signal.0 ≡ true) × (is_from 1 16 (length o.sections) ≡ true) × (list_all (is_section d) o.sections ≡ true) × (nat_le o.hold_ms 600000 ≡ true)
  overlap_parts o h = four (is_from 1 (length d.signals) o.signal.0) (is_from 1 16 (length o.sections)) (list_all (is_section d) o.sections) (nat_le o.hold_ms 600000) h

  pub node_parts : (n : NodeNo) → is_good_node d n ≡ true → (nat_le (ends_a d n) 2 ≡ true) × (nat_le (ends_b d n) 2 ≡ true) × (nat_le (ends_a d n + ends_b d n) 3 ≡ true) × ((not (node_of d n).boundary || (ends_a d n + ends_b d n == 1)) ≡ true)
  node_parts n h = four (nat_le (ends_a d n) 2) (nat_le (ends_b d n) 2) (nat_le (ends_a d n + ends_b d n) 3) (not (node_of d n).boundary || (ends_a d n + ends_b d n == 1)) h

-- ---- the design

module _ (d : Station) (admitted : is_admitted d ≡ true) where
  -- ---- the parts of the test

  whole : (are_few d ≡ true) × (is_timed d ≡ true) × (are_named d ≡ true) × (is_sound_track d ≡ true) × (is_sound_traffic d ≡ true)
  whole = five (are_few d) (is_timed d) (are_named d) (is_sound_track d) (is_sound_traffic d) (and_left (are_few d && is_timed d && are_named d && is_sound_track d && is_sound_traffic d) (are_sound_overlaps d) admitted)

  pub few : (nat_le (length d.nodes) 2000 ≡ true) × (nat_le (length d.edges) 4000 ≡ true) × (nat_le (length d.signals) 1000 ≡ true) × (nat_le (length d.vehicles) 64 ≡ true)
      × (is_from 1 128 (length d.trains) ≡ true) × (nat_le (length d.orders) 256 ≡ true) × (nat_le (length d.withins) 256 ≡ true)
  few = seven (nat_le (length d.nodes) 2000) (nat_le (length d.edges) 4000) (nat_le (length d.signals) 1000) (nat_le (length d.vehicles) 64) (is_from 1 128 (length d.trains)) (nat_le (length d.orders) 256) (nat_le (length d.withins) 256) whole.0

  pub timed : ((is_from 1 4 d.version) ≡ true) × (is_from 100 1000 d.tick_ms ≡ true) × (is_from 1 86400 (horizon d) ≡ true)
  timed = three (is_from 1 4 d.version) (is_from 100 1000 d.tick_ms) (is_from 1 86400 (horizon d)) whole.1

  overlaps : (nat_le (length d.overlaps) (most_overlaps d) ≡ true) × (list_all (is_good_overlap d) d.overlaps ≡ true) × (all_pairs overlaps_differ d.overlaps ≡ true)
  overlaps = three (nat_le (length d.overlaps) (most_overlaps d)) (list_all (is_good_overlap d) d.overlaps) (all_pairs overlaps_differ d.overlaps) (and_right (are_few d && is_timed d && are_named d && is_sound_track d && is_sound_traffic d) (are_sound_overlaps d) admitted)

  -- before version 4 there is no overlap
  pub no_overlaps : nat_le 4 d.version ≡ false → d.overlaps ≡ []
  no_overlaps e = none d.overlaps (leb-true (length d.overlaps) 0 (subst (λ b. nat_le (length d.overlaps) (if b then 1000 else 0) ≡ true) e overlaps.0))
    where
      none : (os : List Overlap) → length os ≤ 0 → os ≡ []
      none [] h = refl
      none (o ∷ os) h = absurd (omega arith)

  -- and 1,000 of them at most
  pub overlaps_most : length d.overlaps ≤ 1000
  overlaps_most = go (nat_le 4 d.version) (leb-true (length d.overlaps) (most_overlaps d) overlaps.0)
    where
      go : (b : Bool) → length d.overlaps ≤ (if b then 1000 else 0) → length d.overlaps ≤ 1000
      go true h = h
      go false h = omega arith

  -- the names of nodes, edges, sections, signals, vehicles and trains
  pub named : (are_names (node_names d) ≡ true) × (are_names (edge_names d) ≡ true) × (are_names d.sections ≡ true) × (are_names (signal_names d) ≡ true) × (are_names (vehicle_names d) ≡ true) × (are_names (train_names d) ≡ true)
  named = six (are_names (node_names d)) (are_names (edge_names d)) (are_names d.sections) (are_names (signal_names d)) (are_names (vehicle_names d)) (are_names (train_names d)) whole.2

  track : (list_all (is_good_node d) (map (λ n. record { 0 = n }) (one_to (length d.nodes))) ≡ true) × (list_all (is_good_edge d) d.edges ≡ true) × (are_numbered (length d.sections) 0 d.edges ≡ true) × (list_all (is_good_signal d) d.signals ≡ true) × (all_pairs are_apart d.signals ≡ true)
  track = five (list_all (is_good_node d) (map (λ n. record { 0 = n }) (one_to (length d.nodes)))) (list_all (is_good_edge d) d.edges) (are_numbered (length d.sections) 0 d.edges) (list_all (is_good_signal d) d.signals) (all_pairs are_apart d.signals) whole.3

  traffic : (list_all (is_good_vehicle d) d.vehicles ≡ true) × (list_all (is_good_train d) d.trains ≡ true) × (list_all (is_good_order d) d.orders ≡ true) × (list_all (is_good_within d) d.withins ≡ true)
  traffic = four (list_all (is_good_vehicle d) d.vehicles) (list_all (is_good_train d) d.trains) (list_all (is_good_order d) d.orders) (list_all (is_good_within d) d.withins) whole.4

  -- ---- entries

  pub good_node : (k : ℕ) → k < length d.nodes → is_good_node d (record { 0 = 1 + k }) ≡ true
  good_node k l = list_all_at (is_good_node d) (map number (one_to (length d.nodes))) (record { 0 = 1 + k }) track.0 (in_map number (one_to (length d.nodes)) (1 + k) (in_count 1 (length d.nodes) (1 + k) (omega arith) (omega arith)))
    where
      number : ℕ → NodeNo
      number n = record { 0 = n }

  pub good_edge : (e : Edge) → In e d.edges → is_good_edge d e ≡ true
  good_edge e m = list_all_at (is_good_edge d) d.edges e track.1 m

  pub sections_numbered : are_numbered (length d.sections) 0 d.edges ≡ true
  sections_numbered = track.2

  pub good_signal : (s : Signal) → In s d.signals → is_good_signal d s ≡ true
  good_signal s m = list_all_at (is_good_signal d) d.signals s track.3 m

  pub signals_apart : all_pairs are_apart d.signals ≡ true
  signals_apart = track.4

  pub good_vehicle : (v : Vehicle) → In v d.vehicles → is_good_vehicle d v ≡ true
  good_vehicle v m = list_all_at (is_good_vehicle d) d.vehicles v traffic.0 m

  pub good_train : (t : Train) → In t d.trains → is_good_train d t ≡ true
  good_train t m = list_all_at (is_good_train d) d.trains t traffic.1 m

  -- how long trains stand: at most an hour, and not at all before version 3
  pub dwell_within : (t : Train) → In t d.trains → (ms : ℕ) → In ms t.dwell_ms → ms ≤ longest_dwell d
  dwell_within t m ms i = leb-true ms (longest_dwell d) (list_all_at (λ ms. nat_le ms (longest_dwell d)) t.dwell_ms ms (dwell_parts d t (train_parts d t (good_train t m)).4).1 i)

  pub dwell_most : (t : Train) → In t d.trains → (ms : ℕ) → In ms t.dwell_ms → ms ≤ 3600000
  dwell_most t m ms i = let most = dwell_within t m ms i in let hour = an_hour (nat_le 3 d.version) in omega arith
    where
      an_hour : (b : Bool) → (if b then 3600000 else 0) ≤ 3600000
      an_hour true = omega arith
      an_hour false = omega arith

  pub dwell_count : (t : Train) → In t d.trains → length t.dwell_ms ≡ length t.visits
  dwell_count t m = eqb-true (length t.dwell_ms) (length t.visits) (dwell_parts d t (train_parts d t (good_train t m)).4).0

  pub good_order : (o : Order) → In o d.orders → is_good_order d o ≡ true
  good_order o m = list_all_at (is_good_order d) d.orders o traffic.2 m

  pub good_within : (w : Within) → In w d.withins → is_good_within d w ≡ true
  good_within w m = list_all_at (is_good_within d) d.withins w traffic.3 m

  pub good_overlap : (o : Overlap) → In o d.overlaps → is_good_overlap d o ≡ true
  good_overlap o m = list_all_at (is_good_overlap d) d.overlaps o overlaps.1 m

  pub overlaps_apart : all_pairs overlaps_differ d.overlaps ≡ true
  overlaps_apart = overlaps.2
