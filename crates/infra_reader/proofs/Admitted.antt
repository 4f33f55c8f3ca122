-- A sheet that no code refuses gives an admitted station.
use Rattle.std.proofs.Common.{◌≡◌, ℕ, zero, suc, ◌+◌, ◌-◌, ◌≤◌, inl, inr, Bool, true, false, not, ◌&&◌, ◌||◌, ◌==◌, nat_le, ℤ, pos, List, [], ◌∷◌, ◌++◌, length, take, get_or, map, bytes_eq, refl, sym, ap, ap₂, subst, ◌∙◌, arith, eqb-true}
use Rattle.std.specs.Prelude.{int_le, is_none}
use Rattle.std.specs.List.{list_any, list_all}
use Rattle.design_table.specs.declared.key.Key.TheVariants as keys
use Rattle.design_table.specs.declared.place.EntryKind.{EntryKind}
use Rattle.design_table.specs.declared.place.EntryKind.TheVariants as kinds
use Rattle.design_table.specs.declared.place.Place.{Place}
use Rattle.design_table.specs.declared.place.Place.TheVariants.{Top, Entry, Field}
use Rattle.design_table.specs.Reads.{at, in_each}
use Rattle.design_table.specs.Parsed.{ParsedNode, ParsedEdge, ParsedSignal, ParsedVehicle, ParsedTrain, ParsedWithin, ParsedOverlap, ParsedSheet}
use Rattle.rail_base.specs.declared.station.Station.{Station}
use Rattle.rail_base.specs.declared.station.Node.{Node}
use Rattle.rail_base.specs.declared.station.Edge.{Edge}
use Rattle.rail_base.specs.declared.station.Signal.{Signal}
use Rattle.rail_base.specs.declared.station.Vehicle.{Vehicle}
use Rattle.rail_base.specs.declared.station.Train.{Train}
use Rattle.rail_base.specs.declared.station.Order.{Order}
use Rattle.rail_base.specs.declared.station.Side.TheVariants.{A, B}
use Rattle.rail_base.specs.declared.station.NodeNo.{NodeNo}
use Rattle.rail_base.specs.declared.station.SectionNo.{SectionNo}
use Rattle.rail_base.specs.Numbering.{one_to}
use Rattle.rail_base.specs.Members.{In, all_pairs}
use Rattle.rail_base.specs.Stations.{node_of, horizon, per_tick_speed, per_tick_accel, longest_dwell, most_overlaps}
use Rattle.rail_base.specs.Admission.{is_from, is_name, are_names, is_node, is_vehicle, is_visit, is_good_node, is_good_edge, are_numbered, is_good_signal, are_apart, is_good_vehicle, is_good_set, are_good_dwells, is_good_train, is_good_order, is_good_within, is_good_overlap, are_few, is_timed, are_named, is_sound_track, is_sound_traffic, are_sound_overlaps, is_admitted}
use Rattle.rail_base.proofs.Members.{and_both, and_left, and_right, list_all_at}
use Rattle.rail_base.proofs.Lists.{list_all_from, in_map, in_map_back, in_count_back, length-map}
use Rattle.infra_reader.specs.Names.{Names, names_of, is_among, number_in, node_names, edge_names, section_names, signal_names, vehicle_names, train_names, overlap_signals, repeated, overlaps_repeated, repeated_names, each_once}
use Rattle.infra_reader.specs.Unknown.{unless_among, edge_unknown, signal_unknown, train_unknown, track_unknown, traffic_unknown, order_unknown, within_unknown, overlap_unknown, unknown_names}
use Rattle.infra_reader.specs.Limits.{unless_from, limits_outside, count_outside, array_outside, edge_limits, vehicle_limits, within_limits, overlap_limits, edge_outside, vehicle_outside, train_outside, within_outside, overlap_outside, are_few_visits, are_good_dwells as are_dwells, is_horizon, times_outside, track_outside, traffic_outside, out_of_range}
use Rattle.infra_reader.specs.Stations.{nodes_in, node_in, edge_in, signal_in, vehicle_in, train_in, order_in, within_in, overlap_in, station_of}
use Rattle.infra_reader.specs.Track.{ends_at, is_crowded, is_loop, is_open, is_beside, is_misplaced, crowded, open_boundaries, misplaced_signals}
use Rattle.infra_reader.specs.Traffic.{if_zero, vehicle_zeros, zeros, can_enter, inner_starts, unless_visit, order_missing, within_missing, missing_visits}
use Rattle.infra_reader.specs.Spelling.{IsSpelled}
use Rattle.infra_reader.proofs.AllOf.{passes}
use Rattle.infra_reader.proofs.Apart.{all_apart, any_turned, names_apart}
use Rattle.infra_reader.proofs.EndCounts.{leave_count, good_counts}
use Rattle.infra_reader.proofs.Placeless.{no_left, no_right, none_in, none_at, unbroken}
use Rattle.infra_reader.proofs.Ranges.{in_range, ranged, kept_number, few, array_count, array_each, known, there, moves, horizon_in}
use Rattle.infra_reader.proofs.Dwells.{are_stays, good_stays}
use Rattle.infra_reader.proofs.Seconds.{apart as signals_differ, names_clash_free, overlaps_apart}
use Rattle.infra_reader.proofs.Sections.{numbered, added_among, added_apart, added_all}

-- ---- tests joined

and_three : (a b c : Bool) → a ≡ true → b ≡ true → c ≡ true → (a && b && c) ≡ true
and_three a b c p q r = and_both (a && b) c (and_both a b p q) r

and_four : (a b c d : Bool) → a ≡ true → b ≡ true → c ≡ true → d ≡ true → (a && b && c && d) ≡ true
and_four a b c d p q r t = and_both (a && b && c) d (and_three a b c p q r) t

and_five : (a b c d e : Bool) → a ≡ true → b ≡ true → c ≡ true → d ≡ true → e ≡ true → (a && b && c && d && e) ≡ true
and_five a b c d e p q r t u = and_both (a && b && c && d) e (and_four a b c d p q r t) u

and_seven : (a b c d e f g : Bool) → a ≡ true → b ≡ true → c ≡ true → d ≡ true → e ≡ true → f ≡ true → g ≡ true → (a && b && c && d && e && f && g) ≡ true
and_seven a b c d e f g p q r t u v w = and_three (a && b && c && d && e) f g (and_five a b c d e p q r t u) v w

or_left_false : (a b : Bool) → (a || b) ≡ false → a ≡ false
or_left_false false b h = refl
or_left_false true b h = absurd (cc)

or_false : (a : Bool) → (a || false) ≡ true → a ≡ true
or_false true h = refl
or_false false h = h

version_most : (z : ℤ) (place : Place) → unless_from 1 4 z place ≡ [] → int_le z (pos 4) ≡ true
unfolding unless_from
version_most z place h = and_right (int_le (pos 1) z) (int_le z (pos 4)) (passes (int_le (pos 1) z && int_le z (pos 4)) place h)

or_right_false : (a b : Bool) → (a || b) ≡ false → b ≡ false
or_right_false false b h = h
or_right_false true b h = absurd (cc)

-- ---- names

names_differ : (kind : EntryKind) (names : List (List ℕ)) → repeated kind names ≡ [] → all_pairs names_apart names ≡ true
unfolding repeated
names_differ kind names h = all_apart bytes_eq names (λ i name. at (is_among (take (i - 1) names) name) (Field kind i keys.Name)) later h
  where
    later : (n : ℕ) (x : List ℕ) → at (is_among (take (n - 1) names) x) (Field kind n keys.Name) ≡ [] → list_any (λ q. bytes_eq q x) (take (n - 1) names) ≡ false
    later n x e = any_turned x (take (n - 1) names) ∙ unbroken (is_among (take (n - 1) names) x) (Field kind n keys.Name) e

good_names : (names : List (List ℕ)) → list_all is_name names ≡ true → all_pairs names_apart names ≡ true → are_names names ≡ true
good_names names p q = and_both (list_all is_name names) (all_pairs names_apart names) p q

-- the entries' names, also where the entries are the station's
named_entries : {X Y : Type 0} (name : Y → List ℕ) (make : X → Y) (parsed : X → List ℕ) (xs : List X) (kind : EntryKind) → ((x : X) → name (make x) ≡ parsed x) → list_all is_name (map parsed xs) ≡ true → repeated kind (map parsed xs) ≡ [] → are_names (map name (map make xs)) ≡ true
named_entries name make parsed xs kind same p q = subst (λ names. are_names names ≡ true) (sym (go xs)) (good_names (map parsed xs) p (names_differ kind (map parsed xs) q))
  where
    go : (xs : List _) → map name (map make xs) ≡ map parsed xs
    go [] = refl
    go (x ∷ xs) = ap₂ (λ n ns. n ∷ ns) (same x) (go xs)

module _ (s : ParsedSheet) (named : IsSpelled s) (d03 : repeated_names s ≡ []) (d04 : unknown_names s ≡ []) (d05 : out_of_range s ≡ []) where
  abbrev d : Station
  d = station_of s

  abbrev names : Names
  names = names_of s

  -- ---- the parts of each code

  all_named : are_named d ≡ true
  unfolding repeated_names
  all_named =
      let r1 = no_left (repeated kinds.Node (node_names s)) _ d03 in
      let t1 = no_right (repeated kinds.Node (node_names s)) _ d03 in
      let r2 = no_left (repeated kinds.Edge (edge_names s)) _ t1 in
      let t2 = no_right (repeated kinds.Edge (edge_names s)) _ t1 in
      let r3 = no_left (repeated kinds.Signal (signal_names s)) _ t2 in
      let t3 = no_right (repeated kinds.Signal (signal_names s)) _ t2 in
      let r4 = no_left (repeated kinds.Vehicle (vehicle_names s)) _ t3 in
      let t4 = no_right (repeated kinds.Vehicle (vehicle_names s)) _ t3 in
      let r5 = no_left (repeated kinds.Train (train_names s)) _ t4 in
      let n1 = are_names (map (λ (n : Node). n.name) d.nodes) in
      let n2 = are_names (map (λ (e : Edge). e.name) d.edges) in
      let n3 = are_names d.sections in
      let n4 = are_names (map (λ (q : Signal). q.name) d.signals) in
      let n5 = are_names (map (λ (v : Vehicle). v.name) d.vehicles) in
      let n6 = are_names (map (λ (t : Train). t.name) d.trains) in
      let h1 : n1 ≡ true = named_entries (λ (n : Node). n.name) (node_in names) (λ (n : ParsedNode). n.name) s.nodes kinds.Node (λ n. refl) named.nodes r1 in
      let h2 : n2 ≡ true = named_entries (λ (e : Edge). e.name) (edge_in names) (λ (e : ParsedEdge). e.name) s.edges kinds.Edge (λ e. refl) named.edges r2 in
      let h3 : n3 ≡ true = good_names (each_once (section_names s)) (added_all is_name [] (section_names s) refl named.sections) (added_apart [] (section_names s) refl) in
      let h4 : n4 ≡ true = named_entries (λ (q : Signal). q.name) (signal_in names) (λ (q : ParsedSignal). q.name) s.signals kinds.Signal (λ q. refl) named.signals r3 in
      let h5 : n5 ≡ true = named_entries (λ (v : Vehicle). v.name) (vehicle_in names) (λ (v : ParsedVehicle). v.name) s.vehicles kinds.Vehicle (λ v. refl) named.vehicles r4 in
      let h6 : n6 ≡ true = named_entries (λ (t : Train). t.name) (train_in names) (λ (t : ParsedTrain). t.name) s.trains kinds.Train (λ t. refl) named.trains r5 in
      and_both (n1 && n2 && n3 && n4 && n5) n6 (and_five n1 n2 n3 n4 n5 h1 h2 h3 h4 h5) h6

  one_overlap : overlaps_repeated names.signals (overlap_signals s) ≡ []
  unfolding repeated_names
  one_overlap =
      let t1 = no_right (repeated kinds.Node (node_names s)) _ d03 in
      let t2 = no_right (repeated kinds.Edge (edge_names s)) _ t1 in
      let t3 = no_right (repeated kinds.Signal (signal_names s)) _ t2 in
      let t4 = no_right (repeated kinds.Vehicle (vehicle_names s)) _ t3 in
      no_right (repeated kinds.Train (train_names s)) _ t4

  unknown_track : track_unknown names s ≡ []
  unknown_track = no_left (track_unknown names s) (traffic_unknown names s) d04

  unknown_traffic : traffic_unknown names s ≡ []
  unknown_traffic = no_right (track_unknown names s) (traffic_unknown names s) d04

  unknown_edges : in_each (edge_unknown names) s.edges ≡ []
  unfolding track_unknown
  unknown_edges = no_left (in_each (edge_unknown names) s.edges) (in_each (signal_unknown names) s.signals) unknown_track

  unknown_signals : in_each (signal_unknown names) s.signals ≡ []
  unfolding track_unknown
  unknown_signals = no_right (in_each (edge_unknown names) s.edges) (in_each (signal_unknown names) s.signals) unknown_track

  unknown_trains : in_each (train_unknown names) s.trains ≡ []
  unfolding traffic_unknown
  unknown_trains = no_left (in_each (train_unknown names) s.trains) (in_each (order_unknown names) s.orders ++ (in_each (within_unknown names) s.withins ++ in_each (overlap_unknown names) s.overlaps)) unknown_traffic

  unknown_overlaps : in_each (overlap_unknown names) s.overlaps ≡ []
  unfolding traffic_unknown
  unknown_overlaps =
      let t1 = no_right (in_each (train_unknown names) s.trains) _ unknown_traffic in
      let t2 = no_right (in_each (order_unknown names) s.orders) _ t1 in
      no_right (in_each (within_unknown names) s.withins) _ t2

  outside_times : times_outside s ≡ []
  unfolding out_of_range
  outside_times = no_left (times_outside s) (track_outside s ++ traffic_outside s) d05

  outside_track : track_outside s ≡ []
  unfolding out_of_range
  outside_track = no_left (track_outside s) (traffic_outside s) (no_right (times_outside s) (track_outside s ++ traffic_outside s) d05)

  outside_traffic : traffic_outside s ≡ []
  unfolding out_of_range
  outside_traffic = no_right (track_outside s) (traffic_outside s) (no_right (times_outside s) (track_outside s ++ traffic_outside s) d05)

  abbrev nodes_out : List Place
  nodes_out = count_outside 0 2000 keys.Node s.nodes

  abbrev edges_out : List Place
  edges_out = array_outside edge_outside 0 4000 keys.Edge s.edges

  abbrev signals_out : List Place
  signals_out = count_outside 0 1000 keys.Signal s.signals

  abbrev vehicles_out : List Place
  vehicles_out = array_outside vehicle_outside 0 64 keys.Vehicle s.vehicles

  abbrev trains_out : List Place
  trains_out = array_outside train_outside 1 128 keys.Train s.trains

  abbrev orders_out : List Place
  orders_out = count_outside 0 256 keys.Order s.orders

  abbrev withins_out : List Place
  withins_out = array_outside within_outside 0 256 keys.Within s.withins

  abbrev overlaps_out : List Place
  overlaps_out = array_outside overlap_outside 0 1000 keys.Overlap s.overlaps

  few_nodes : nodes_out ≡ []
  unfolding track_outside
  few_nodes = no_left nodes_out (edges_out ++ signals_out) outside_track

  few_edges : edges_out ≡ []
  unfolding track_outside
  few_edges = no_left edges_out signals_out (no_right nodes_out (edges_out ++ signals_out) outside_track)

  few_signals : signals_out ≡ []
  unfolding track_outside
  few_signals = no_right edges_out signals_out (no_right nodes_out (edges_out ++ signals_out) outside_track)

  few_vehicles : vehicles_out ≡ []
  unfolding traffic_outside
  few_vehicles = no_left vehicles_out (trains_out ++ (orders_out ++ (withins_out ++ overlaps_out))) outside_traffic

  past_trains : orders_out ++ (withins_out ++ overlaps_out) ≡ []
  unfolding traffic_outside
  past_trains = no_right trains_out (orders_out ++ (withins_out ++ overlaps_out)) (no_right vehicles_out (trains_out ++ (orders_out ++ (withins_out ++ overlaps_out))) outside_traffic)

  few_trains : trains_out ≡ []
  unfolding traffic_outside
  few_trains = no_left trains_out (orders_out ++ (withins_out ++ overlaps_out)) (no_right vehicles_out (trains_out ++ (orders_out ++ (withins_out ++ overlaps_out))) outside_traffic)

  few_orders : orders_out ≡ []
  few_orders = no_left orders_out (withins_out ++ overlaps_out) past_trains

  few_withins : withins_out ≡ []
  few_withins = no_left withins_out overlaps_out (no_right orders_out (withins_out ++ overlaps_out) past_trains)

  few_overlaps : overlaps_out ≡ []
  few_overlaps = no_right withins_out overlaps_out (no_right orders_out (withins_out ++ overlaps_out) past_trains)

  all_few : are_few d ≡ true
  all_few =
      and_seven (nat_le (length d.nodes) 2000) (nat_le (length d.edges) 4000) (nat_le (length d.signals) 1000) (nat_le (length d.vehicles) 64) (is_from 1 128 (length d.trains)) (nat_le (length d.orders) 256) (nat_le (length d.withins) 256)
      (and_right (nat_le 0 (length d.nodes)) (nat_le (length d.nodes) 2000) (few (node_in names) 0 2000 keys.Node s.nodes few_nodes))
      (and_right (nat_le 0 (length d.edges)) (nat_le (length d.edges) 4000) (few (edge_in names) 0 4000 keys.Edge s.edges (array_count edge_outside 0 4000 keys.Edge s.edges few_edges)))
      (and_right (nat_le 0 (length d.signals)) (nat_le (length d.signals) 1000) (few (signal_in names) 0 1000 keys.Signal s.signals few_signals))
      (and_right (nat_le 0 (length d.vehicles)) (nat_le (length d.vehicles) 64) (few (vehicle_in names) 0 64 keys.Vehicle s.vehicles (array_count vehicle_outside 0 64 keys.Vehicle s.vehicles few_vehicles)))
      (few (train_in names) 1 128 keys.Train s.trains (array_count train_outside 1 128 keys.Train s.trains few_trains))
      (and_right (nat_le 0 (length d.orders)) (nat_le (length d.orders) 256) (few (order_in names) 0 256 keys.Order s.orders few_orders))
      (and_right (nat_le 0 (length d.withins)) (nat_le (length d.withins) 256) (few (within_in names) 0 256 keys.Within s.withins (array_count within_outside 0 256 keys.Within s.withins few_withins)))

  -- ---- nodes that are there

  node_there : (name : List ℕ) (place : Place) → unless_among names.nodes name place ≡ [] → is_from 1 (length d.nodes) (number_in names.nodes name) ≡ true
  node_there name place h = known names.nodes name (length d.nodes) (length-map (node_in names) s.nodes ∙ sym (length-map (λ (n : ParsedNode). n.name) s.nodes)) (there names.nodes name place h)

  node_among : (name : List ℕ) → is_among names.nodes name ≡ true → is_from 1 (length d.nodes) (number_in names.nodes name) ≡ true
  node_among name h = known names.nodes name (length d.nodes) (length-map (node_in names) s.nodes ∙ sym (length-map (λ (n : ParsedNode). n.name) s.nodes)) h

  -- ---- overlaps

  signal_there : (x : ParsedOverlap) → In x s.overlaps → is_among names.signals x.signal ≡ true
  signal_there x m =
      let unknown = none_in (overlap_unknown names) 1 s.overlaps x unknown_overlaps m in
      let place = Field kinds.Overlap unknown.0 in
      there names.signals x.signal (place keys.Signal) (no_left (unless_among names.signals x.signal (place keys.Signal)) (at (not (list_all (is_among names.sections) x.sections)) (place keys.Sections)) unknown.1)

  sections_there : (x : ParsedOverlap) → In x s.overlaps → list_all (is_among names.sections) x.sections ≡ true
  sections_there x m =
      let unknown = none_in (overlap_unknown names) 1 s.overlaps x unknown_overlaps m in
      let place = Field kinds.Overlap unknown.0 in
      let all = list_all (is_among names.sections) x.sections in
      passes all (place keys.Sections) (no_right (unless_among names.signals x.signal (place keys.Signal)) (at (not all) (place keys.Sections)) unknown.1)

  good_overlap : (x : ParsedOverlap) → In x s.overlaps → is_good_overlap d (overlap_in names x) ≡ true
  good_overlap x m =
      let o = overlap_in names x in
      let outside = none_in overlap_outside 1 s.overlaps x (array_each overlap_outside 0 1000 keys.Overlap s.overlaps few_overlaps) m in
      let place = Field kinds.Overlap outside.0 keys.Sections in
      let crowd = at (not (is_from 1 16 (length x.sections))) place in
      let long = limits_outside kinds.Overlap outside.0 (overlap_limits x) in
      and_four (is_from 1 (length d.signals) o.signal.0) (is_from 1 16 (length o.sections)) (list_all is_section o.sections) (nat_le o.hold_ms 600000)
      (known names.signals x.signal (length d.signals) (length-map (signal_in names) s.signals ∙ sym (length-map (λ (q : ParsedSignal). q.name) s.signals)) (signal_there x m))
      (subst (λ n. is_from 1 16 n ≡ true) (sym (length-map number x.sections)) (passes (is_from 1 16 (length x.sections)) place (no_left crowd long outside.1)))
      (list_all_from is_section o.sections (λ z k. let y = in_map_back number x.sections z k in subst (λ z. is_section z ≡ true) y.2 (known names.sections y.0 (length d.sections) refl (list_all_at (is_among names.sections) x.sections y.0 (sections_there x m) y.1))))
      (and_right (nat_le 0 o.hold_ms) (nat_le o.hold_ms 600000) (kept_number kinds.Overlap outside.0 (overlap_limits x) keys.HoldMs 0 600000 x.hold_ms (omega arith) (inl refl) (no_right crowd long outside.1)))
    where
      is_section : SectionNo → Bool
      is_section z = is_from 1 (length d.sections) z.0

      number : List ℕ → SectionNo
      number name = record { 0 = number_in names.sections name }

  -- the version is 4 where there is one
  many_overlaps : nat_le (length d.overlaps) (most_overlaps d) ≡ true
  unfolding times_outside
  many_overlaps = go (int_le (pos 4) s.version) refl named.overlaps
    where
      go : (b : Bool) → int_le (pos 4) s.version ≡ b → (b || (length s.overlaps == 0)) ≡ true → nat_le (length d.overlaps) (most_overlaps d) ≡ true
      go true e spelled =
          let high = version_most s.version (Top keys.Version) (no_left (unless_from 1 4 s.version (Top keys.Version)) _ outside_times) in
          let fourth = and_left (nat_le 4 d.version) (nat_le d.version 4) (in_range 4 4 s.version (omega arith) (and_both (int_le (pos 4) s.version) (int_le s.version (pos 4)) e high)) in
          let many = and_right (nat_le 0 (length d.overlaps)) (nat_le (length d.overlaps) 1000) (few (overlap_in names) 0 1000 keys.Overlap s.overlaps (array_count overlap_outside 0 1000 keys.Overlap s.overlaps few_overlaps)) in
          rw fourth many
      go false e spelled =
          let none = eqb-true (length s.overlaps) 0 spelled in
          let same : length d.overlaps ≡ 0 = length-map (overlap_in names) s.overlaps ∙ none in
          let least : nat_le 0 (most_overlaps d) ≡ true = grind arith in
          subst (λ n. nat_le n (most_overlaps d) ≡ true) (sym same) least

  overlaps_sound : are_sound_overlaps d ≡ true
  overlaps_sound =
      and_three (nat_le (length d.overlaps) (most_overlaps d)) (list_all (is_good_overlap d) d.overlaps) (all_pairs signals_differ d.overlaps)
      many_overlaps
      (list_all_from (is_good_overlap d) d.overlaps (λ o m. let x = in_map_back (overlap_in names) s.overlaps o m in subst (λ o. is_good_overlap d o ≡ true) x.2 (good_overlap x.0 x.1)))
      (overlaps_apart names s.overlaps signal_there (names_clash_free names.signals (overlap_signals s) one_overlap))

  -- ---- the rules on the station

  module _ (d06 : crowded d ≡ []) (d07 : open_boundaries d ≡ []) (d08 : misplaced_signals d ≡ []) (d09 : zeros d ≡ []) (d10 : inner_starts d ≡ []) (d11 : missing_visits d ≡ []) where
    abbrev nodes_crowded : List Place
    nodes_crowded = in_each (λ i (n : Node). at (is_crowded d i) (Entry kinds.Node i)) d.nodes

    abbrev loops : List Place
    loops = in_each (λ i e. at (is_loop e) (Entry kinds.Edge i)) d.edges

    no_crowd : nodes_crowded ≡ []
    unfolding crowded
    no_crowd = no_left nodes_crowded loops d06

    no_loops : loops ≡ []
    unfolding crowded
    no_loops = no_right nodes_crowded loops d06

    no_loop : (e : Edge) → In e d.edges → is_loop e ≡ false
    no_loop e m = let h = none_in (λ i e. at (is_loop e) (Entry kinds.Edge i)) 1 d.edges e no_loops m in unbroken (is_loop e) (Entry kinds.Edge h.0) h.1

    abbrev edges_still : List Place
    edges_still = in_each (λ i (e : Edge). if_zero (per_tick_speed d e.speed_mm_s) (Field kinds.Edge i keys.SpeedMmS)) d.edges

    abbrev vehicles_still : List Place
    vehicles_still = in_each (vehicle_zeros d) d.vehicles

    one_tick : if_zero (horizon d) (Top keys.HorizonMs) ≡ []
    unfolding zeros
    one_tick = no_left (if_zero (horizon d) (Top keys.HorizonMs)) (edges_still ++ vehicles_still) d09

    no_edge_still : edges_still ≡ []
    unfolding zeros
    no_edge_still = no_left edges_still vehicles_still (no_right (if_zero (horizon d) (Top keys.HorizonMs)) (edges_still ++ vehicles_still) d09)

    no_vehicle_still : vehicles_still ≡ []
    unfolding zeros
    no_vehicle_still = no_right edges_still vehicles_still (no_right (if_zero (horizon d) (Top keys.HorizonMs)) (edges_still ++ vehicles_still) d09)

    all_timed : is_timed d ≡ true
    unfolding times_outside
    all_timed =
        let version = unless_from 1 4 s.version (Top keys.Version) in
        let tick = unless_from 100 1000 s.tick_ms (Top keys.TickMs) in
        let late = at (not (is_horizon s.horizon_ms s.tick_ms)) (Top keys.HorizonMs) in
        let v = no_left version (tick ++ late) outside_times in
        let t = no_left tick late (no_right version (tick ++ late) outside_times) in
        let l = no_right tick late (no_right version (tick ++ late) outside_times) in
        and_three (is_from 1 4 d.version) (is_from 100 1000 d.tick_ms) (is_from 1 86400 (horizon d))
        (ranged 1 4 s.version (Top keys.Version) (omega arith) v)
        (ranged 100 1000 s.tick_ms (Top keys.TickMs) (omega arith) t)
        (horizon_in s.horizon_ms s.tick_ms (Top keys.HorizonMs) (Top keys.TickMs) (Top keys.HorizonMs) t l one_tick)

    -- ---- edges

    good_edge : (x : ParsedEdge) → In x s.edges → is_good_edge d (edge_in names x) ≡ true
    good_edge x m =
        let e = edge_in names x in
        let unknown = none_in (edge_unknown names) 1 s.edges x unknown_edges m in
        let outside = none_in edge_outside 1 s.edges x (array_each edge_outside 0 4000 keys.Edge s.edges few_edges) m in
        let still = none_in (λ i (e : Edge). if_zero (per_tick_speed d e.speed_mm_s) (Field kinds.Edge i keys.SpeedMmS)) 1 d.edges e no_edge_still (in_map (edge_in names) s.edges x m) in
        let from = unless_among names.nodes x.from (Field kinds.Edge unknown.0 keys.From) in
        let to = unless_among names.nodes x.to (Field kinds.Edge unknown.0 keys.To) in
        and_seven (is_node d e.from.node) (is_node d e.to.node) (not (e.from.node.0 == e.to.node.0)) (is_from 1 10000000 e.length_mm) (is_from 1 100000 e.speed_mm_s) (nat_le 1 (per_tick_speed d e.speed_mm_s)) (is_from 1 (length d.sections) e.section.0)
        (node_there x.from (Field kinds.Edge unknown.0 keys.From) (no_left from to unknown.1))
        (node_there x.to (Field kinds.Edge unknown.0 keys.To) (no_right from to unknown.1))
        (ap not (no_loop e (in_map (edge_in names) s.edges x m)))
        (kept_number kinds.Edge outside.0 (edge_limits x) keys.LengthMm 1 10000000 x.length_mm (omega arith) (inl refl) outside.1)
        (kept_number kinds.Edge outside.0 (edge_limits x) keys.SpeedMmS 1 100000 x.speed_mm_s (omega arith) (inr (inl refl)) outside.1)
        (moves (per_tick_speed d e.speed_mm_s) (Field kinds.Edge still.0 keys.SpeedMmS) still.1)
        (known names.sections x.section (length d.sections) refl (added_among [] (section_names s) x.section (in_map (λ (e : ParsedEdge). e.section) s.edges x m)))

    -- ---- nodes

    good_node : (k : ℕ) → 1 ≤ k → k ≤ length d.nodes → is_good_node d (record { 0 = k }) ≡ true
    unfolding open_boundaries
    good_node zero low high = absurd (omega arith)
    good_node (suc j) low high =
        let here : 1 + j ≡ suc j = omega arith in
        let other : Node = record { name = []; boundary = false } in
        let a = none_at (λ i (n : Node). at (is_crowded d i) (Entry kinds.Node i)) 1 j d.nodes other (omega arith) no_crowd in
        let b = none_at (λ i (n : Node). at (is_open d i n) (Entry kinds.Node i)) 1 j d.nodes other (omega arith) d07 in
        let c = unbroken (is_crowded d (1 + j)) (Entry kinds.Node (1 + j)) a in
        let o = unbroken (is_open d (1 + j) (get_or d.nodes j other)) (Entry kinds.Node (1 + j)) b in
        let ea = leave_count d (suc j) A no_loop in
        let eb = leave_count d (suc j) B no_loop in
        rw (ea, eb) (good_counts (ends_at d (suc j) A) (ends_at d (suc j) B) (node_of d (record { 0 = suc j })).boundary (subst (λ i. is_crowded d i ≡ false) here c) (subst (λ i. is_open d i (get_or d.nodes j other) ≡ false) here o))

    -- ---- signals

    good_signal : (x : ParsedSignal) → In x s.signals → is_good_signal d (signal_in names x) ≡ true
    unfolding misplaced_signals
    good_signal x m =
        let q = signal_in names x in
        let unknown = none_in (signal_unknown names) 1 s.signals x unknown_signals m in
        let wrong = none_in (λ i q. at (is_misplaced d i q) (Entry kinds.Signal i)) 1 d.signals q d08 (in_map (signal_in names) s.signals x m) in
        let right = unbroken (is_misplaced d wrong.0 q) (Entry kinds.Signal wrong.0) wrong.1 in
        and_both (is_node d q.node) (not (node_of d q.node).boundary)
        (node_there x.node (Field kinds.Signal unknown.0 keys.Node) unknown.1)
        (ap not (or_left_false (node_of d q.node).boundary (list_any (λ p. is_beside p q) (take (wrong.0 - 1) d.signals)) right))

    signals_apart : all_pairs are_apart d.signals ≡ true
    unfolding misplaced_signals
    signals_apart = all_apart is_beside d.signals (λ i q. at (is_misplaced d i q) (Entry kinds.Signal i)) later d08
      where
        later : (n : ℕ) (q : Signal) → at (is_misplaced d n q) (Entry kinds.Signal n) ≡ [] → list_any (λ p. is_beside p q) (take (n - 1) d.signals) ≡ false
        later n q h = or_right_false (node_of d q.node).boundary (list_any (λ p. is_beside p q) (take (n - 1) d.signals)) (unbroken (is_misplaced d n q) (Entry kinds.Signal n) h)

    track_sound : is_sound_track d ≡ true
    track_sound =
        and_five (list_all (is_good_node d) (map (λ n. record { 0 = n }) (one_to (length d.nodes)))) (list_all (is_good_edge d) d.edges) (are_numbered (length d.sections) 0 d.edges) (list_all (is_good_signal d) d.signals) (all_pairs are_apart d.signals)
        (list_all_from (is_good_node d) (map (λ n. record { 0 = n }) (one_to (length d.nodes))) (λ n m. let k = in_map_back (λ (n : ℕ). record { 0 = n }) (one_to (length d.nodes)) n m in let c = in_count_back 1 (length d.nodes) k.0 k.1 in let low = c.0 in let high = c.1 in subst (λ n. is_good_node d n ≡ true) k.2 (good_node k.0 low (omega arith))))
        (list_all_from (is_good_edge d) d.edges (λ e m. let x = in_map_back (edge_in names) s.edges e m in subst (λ e. is_good_edge d e ≡ true) x.2 (good_edge x.0 x.1)))
        (numbered names s.edges [] refl)
        (list_all_from (is_good_signal d) d.signals (λ q m. let x = in_map_back (signal_in names) s.signals q m in subst (λ q. is_good_signal d q ≡ true) x.2 (good_signal x.0 x.1)))
        signals_apart

    -- ---- vehicles

    good_vehicle : (x : ParsedVehicle) → In x s.vehicles → is_good_vehicle d (vehicle_in names x) ≡ true
    good_vehicle x m =
        let v = vehicle_in names x in
        let outside = none_in vehicle_outside 1 s.vehicles x (array_each vehicle_outside 0 64 keys.Vehicle s.vehicles few_vehicles) m in
        let still = none_in (vehicle_zeros d) 1 d.vehicles v no_vehicle_still (in_map (vehicle_in names) s.vehicles x m) in
        let spot = Field kinds.Vehicle still.0 in
        let no_accel = if_zero (per_tick_accel d v.accel_mm_s2) (spot keys.AccelMmS2) in
        let no_brake = if_zero (per_tick_accel d v.brake_mm_s2) (spot keys.BrakeMmS2) in
        let no_speed = if_zero (per_tick_speed d v.speed_mm_s) (spot keys.SpeedMmS) in
        let z1 = no_right no_accel (no_brake ++ no_speed) still.1 in
        and_seven (is_from 1 2000000 v.length_mm) (is_from 1 100000 v.accel_mm_s2) (is_from 1 100000 v.brake_mm_s2) (is_from 1 100000 v.speed_mm_s) (nat_le 1 (per_tick_accel d v.accel_mm_s2)) (nat_le 1 (per_tick_accel d v.brake_mm_s2)) (nat_le 1 (per_tick_speed d v.speed_mm_s))
        (kept_number kinds.Vehicle outside.0 (vehicle_limits x) keys.LengthMm 1 2000000 x.length_mm (omega arith) (inl refl) outside.1)
        (kept_number kinds.Vehicle outside.0 (vehicle_limits x) keys.AccelMmS2 1 100000 x.accel_mm_s2 (omega arith) (inr (inl refl)) outside.1)
        (kept_number kinds.Vehicle outside.0 (vehicle_limits x) keys.BrakeMmS2 1 100000 x.brake_mm_s2 (omega arith) (inr (inr (inl refl))) outside.1)
        (kept_number kinds.Vehicle outside.0 (vehicle_limits x) keys.SpeedMmS 1 100000 x.speed_mm_s (omega arith) (inr (inr (inr (inl refl)))) outside.1)
        (moves (per_tick_accel d v.accel_mm_s2) (spot keys.AccelMmS2) (no_left no_accel (no_brake ++ no_speed) still.1))
        (moves (per_tick_accel d v.brake_mm_s2) (spot keys.BrakeMmS2) (no_left no_brake no_speed z1))
        (moves (per_tick_speed d v.speed_mm_s) (spot keys.SpeedMmS) (no_right no_brake no_speed z1))

    -- ---- trains

    good_set : (visit : List (List ℕ)) → is_from 1 64 (length visit) ≡ true → list_all (is_among names.nodes) visit ≡ true → is_good_set d (nodes_in names.nodes visit) ≡ true
    good_set visit few_of there_all =
        and_both (is_from 1 64 (length (nodes_in names.nodes visit))) (list_all (is_node d) (nodes_in names.nodes visit))
        (subst (λ n. is_from 1 64 n ≡ true) (sym (length-map number visit)) few_of)
        (list_all_from (is_node d) (nodes_in names.nodes visit) (λ n m. let x = in_map_back number visit n m in subst (λ n. is_node d n ≡ true) x.2 (node_among x.0 (list_all_at (is_among names.nodes) visit x.0 there_all x.1))))
      where
        number : List ℕ → NodeNo
        number name = record { 0 = number_in names.nodes name }

    -- the version is 3 or 4 where it is said how long a train stands
    an_hour : (said : Bool) → (int_le (pos 3) s.version || said) ≡ true → said ≡ false → 3600000 ≤ longest_dwell d
    unfolding times_outside
    an_hour true spelled h = absurd (cc)
    an_hour false spelled h =
        let version = unless_from 1 4 s.version (Top keys.Version) in
        let low = or_false (int_le (pos 3) s.version) spelled in
        let high = version_most s.version (Top keys.Version) (no_left version _ outside_times) in
        let third = and_left (nat_le 3 d.version) (nat_le d.version 4) (in_range 3 4 s.version (omega arith) (and_both (int_le (pos 3) s.version) (int_le s.version (pos 4)) low high)) in
        rw third (omega arith)

    good_train : (x : ParsedTrain) → In x s.trains → is_good_train d (train_in names x) ≡ true
    unfolding inner_starts
    good_train x m =
        let t = train_in names x in
        let unknown = none_in (train_unknown names) 1 s.trains x unknown_trains m in
        let outside = none_in train_outside 1 s.trains x (array_each train_outside 1 128 keys.Train s.trains few_trains) m in
        let inner = none_in (λ i t. at (not (can_enter d t)) (Field kinds.Train i keys.Visits)) 1 d.trains t d10 (in_map (train_in names) s.trains x m) in
        let place = Field kinds.Train unknown.0 in
        let lost = unless_among names.vehicles x.vehicle (place keys.Vehicle) in
        let strange = at (not (list_all (list_all (is_among names.nodes)) x.visits)) (place keys.Visits) in
        let all_there = passes (list_all (list_all (is_among names.nodes)) x.visits) (place keys.Visits) (no_right lost strange unknown.1) in
        let crowd = at (not (are_few_visits x.visits)) (Field kinds.Train outside.0 keys.Visits) in
        let stays = at (not (are_dwells x.visits x.dwell_ms)) (Field kinds.Train outside.0 keys.DwellMs) in
        let counts = passes (are_few_visits x.visits) (Field kinds.Train outside.0 keys.Visits) (no_left crowd stays outside.1) in
        let stood = passes (are_dwells x.visits x.dwell_ms) (Field kinds.Train outside.0 keys.DwellMs) (no_right crowd stays outside.1) in
        let spelled = list_all_at (λ (t : ParsedTrain). int_le (pos 3) s.version || is_none t.dwell_ms) s.trains x named.dwells m in
        let sets = and_right (is_from 1 16 (length x.visits)) (list_all (λ visit. is_from 1 64 (length visit)) x.visits) counts in
        and_five (is_vehicle d t.vehicle) (is_from 1 16 (length t.visits)) (list_all (is_good_set d) t.visits) (can_enter d t) (are_good_dwells d t)
        (known names.vehicles x.vehicle (length d.vehicles) (length-map (vehicle_in names) s.vehicles ∙ sym (length-map (λ (v : ParsedVehicle). v.name) s.vehicles)) (there names.vehicles x.vehicle (place keys.Vehicle) (no_left lost strange unknown.1)))
        (subst (λ n. is_from 1 16 n ≡ true) (sym (length-map (nodes_in names.nodes) x.visits)) (and_left (is_from 1 16 (length x.visits)) (list_all (λ visit. is_from 1 64 (length visit)) x.visits) counts))
        (list_all_from (is_good_set d) t.visits (λ set k. let y = in_map_back (nodes_in names.nodes) x.visits set k in subst (λ set. is_good_set d set ≡ true) y.2 (good_set y.0 (list_all_at (λ visit. is_from 1 64 (length visit)) x.visits y.0 sets y.1) (list_all_at (list_all (is_among names.nodes)) x.visits y.0 all_there y.1))))
        (passes (can_enter d t) (Field kinds.Train inner.0 keys.Visits) inner.1)
        (subst (λ n. are_stays (longest_dwell d) n t.dwell_ms ≡ true) (sym (length-map (nodes_in names.nodes) x.visits)) (good_stays (longest_dwell d) x.visits x.dwell_ms (an_hour (is_none x.dwell_ms) spelled) stood))

    -- ---- orders and withins

    abbrev orders_lost : List Place
    orders_lost = in_each (order_missing d) d.orders

    abbrev withins_lost : List Place
    withins_lost = in_each (within_missing d) d.withins

    no_order_lost : orders_lost ≡ []
    unfolding missing_visits
    no_order_lost = no_left orders_lost withins_lost d11

    no_within_lost : withins_lost ≡ []
    unfolding missing_visits
    no_within_lost = no_right orders_lost withins_lost d11

    good_order : (o : Order) → In o d.orders → is_good_order d o ≡ true
    unfolding unless_visit
    good_order o m =
        let lost = none_in (order_missing d) 1 d.orders o no_order_lost m in
        let first = unless_visit d o.first_train o.first_visit (Field kinds.Order lost.0 keys.FirstVisit) in
        let then = unless_visit d o.then_train o.then_visit (Field kinds.Order lost.0 keys.ThenVisit) in
        and_both (is_visit d o.first_train o.first_visit) (is_visit d o.then_train o.then_visit)
        (passes (is_visit d o.first_train o.first_visit) (Field kinds.Order lost.0 keys.FirstVisit) (no_left first then lost.1))
        (passes (is_visit d o.then_train o.then_visit) (Field kinds.Order lost.0 keys.ThenVisit) (no_right first then lost.1))

    good_within : (x : ParsedWithin) → In x s.withins → is_good_within d (within_in names x) ≡ true
    unfolding unless_visit
    good_within x m =
        let w = within_in names x in
        let lost = none_in (within_missing d) 1 d.withins w no_within_lost (in_map (within_in names) s.withins x m) in
        let outside = none_in within_outside 1 s.withins x (array_each within_outside 0 256 keys.Within s.withins few_withins) m in
        let from = unless_visit d w.from_train w.from_visit (Field kinds.Within lost.0 keys.FromVisit) in
        let to = unless_visit d w.to_train w.to_visit (Field kinds.Within lost.0 keys.ToVisit) in
        and_three (is_visit d w.from_train w.from_visit) (is_visit d w.to_train w.to_visit) (nat_le w.max_ms 86400000)
        (passes (is_visit d w.from_train w.from_visit) (Field kinds.Within lost.0 keys.FromVisit) (no_left from to lost.1))
        (passes (is_visit d w.to_train w.to_visit) (Field kinds.Within lost.0 keys.ToVisit) (no_right from to lost.1))
        (and_right (nat_le 0 w.max_ms) (nat_le w.max_ms 86400000) (kept_number kinds.Within outside.0 (within_limits x) keys.MaxMs 0 86400000 x.max_ms (omega arith) (inl refl) outside.1))

    traffic_sound : is_sound_traffic d ≡ true
    traffic_sound =
        and_four (list_all (is_good_vehicle d) d.vehicles) (list_all (is_good_train d) d.trains) (list_all (is_good_order d) d.orders) (list_all (is_good_within d) d.withins)
        (list_all_from (is_good_vehicle d) d.vehicles (λ v m. let x = in_map_back (vehicle_in names) s.vehicles v m in subst (λ v. is_good_vehicle d v ≡ true) x.2 (good_vehicle x.0 x.1)))
        (list_all_from (is_good_train d) d.trains (λ t m. let x = in_map_back (train_in names) s.trains t m in subst (λ t. is_good_train d t ≡ true) x.2 (good_train x.0 x.1)))
        (list_all_from (is_good_order d) d.orders good_order)
        (list_all_from (is_good_within d) d.withins (λ w m. let x = in_map_back (within_in names) s.withins w m in subst (λ w. is_good_within d w ≡ true) x.2 (good_within x.0 x.1)))

    -- no code refuses the sheet, so its station is admitted
    pub admitted : is_admitted d ≡ true
    admitted = and_both (are_few d && is_timed d && are_named d && is_sound_track d && is_sound_traffic d) (are_sound_overlaps d) (and_five (are_few d) (is_timed d) (are_named d) (is_sound_track d) (is_sound_traffic d) all_few all_timed all_named track_sound traffic_sound) overlaps_sound
