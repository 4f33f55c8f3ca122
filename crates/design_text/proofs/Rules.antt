-- No rule refuses the sheet of an admitted design.
use Rattle.std.proofs.Common.{◌≡◌, ℕ, inl, inr, eqb-true, suc, ◌+◌, ◌-◌, ◌/◌, ◌≤◌, ◌<◌, pos, Bool, true, false, not, ◌&&◌, ◌||◌, ◌==◌, nat_le, List, [], ◌∷◌, ◌++◌, length, take, get_or, map, bytes_eq, refl, sym, ap, ap₂, subst, ◌∙◌, arith, leb-true, le-leb, eq-eqb}
use Rattle.std.specs.Ordering.{int_eq}
use Rattle.std.specs.List.{list_any, list_all}
use Rattle.design_table.specs.declared.key.Key.{Key}
use Rattle.design_table.specs.declared.key.Key.TheVariants as keys
use Rattle.design_table.specs.declared.place.EntryKind.{EntryKind}
use Rattle.design_table.specs.declared.place.EntryKind.TheVariants as kinds
use Rattle.design_table.specs.declared.place.Place.{Place}
use Rattle.design_table.specs.declared.place.Place.TheVariants.{Top, Entry, Field}
use Rattle.design_table.specs.Reads.{at, in_each}
use Rattle.design_table.specs.Parsed.{ParsedNode, ParsedEdge, ParsedSignal, ParsedVehicle, ParsedTrain, ParsedOverlap}
use Rattle.rail_base.specs.declared.station.Station.{Station}
use Rattle.rail_base.specs.declared.station.Node.{Node}
use Rattle.rail_base.specs.declared.station.Edge.{Edge}
use Rattle.rail_base.specs.declared.station.Signal.{Signal}
use Rattle.rail_base.specs.declared.station.Vehicle.{Vehicle}
use Rattle.rail_base.specs.declared.station.Train.{Train}
use Rattle.rail_base.specs.declared.station.Order.{Order}
use Rattle.rail_base.specs.declared.station.Within.{Within}
use Rattle.rail_base.specs.declared.station.Overlap.{Overlap}
use Rattle.rail_base.specs.declared.station.NodeNo.{NodeNo}
use Rattle.rail_base.specs.declared.station.SectionNo.{SectionNo}
use Rattle.rail_base.specs.declared.station.SignalNo.{SignalNo}
use Rattle.rail_base.specs.declared.station.VehicleNo.{VehicleNo}
use Rattle.rail_base.specs.declared.station.TrainNo.{TrainNo}
use Rattle.rail_base.specs.declared.station.Side.TheVariants.{A, B}
use Rattle.rail_base.specs.Numbering.{entry}
use Rattle.rail_base.specs.Members.{In, all_pairs}
use Rattle.rail_base.specs.Stations.{node_of, no_train, horizon, per_tick_speed, per_tick_accel}
use Rattle.rail_base.specs.Admitted.{ends_a, ends_b}
use Rattle.rail_base.specs.Admission.{is_from, is_node, is_vehicle, is_visit, is_good_set, is_admitted}
use Rattle.rail_base.proofs.Members.{and_left, and_right, and_both, map-map, list_all_at, is_false, false_unless}
use Rattle.rail_base.proofs.Lists.{list_all_from, in_map_back, length-map}
use Rattle.rail_base.proofs.Contained.{in_at}
use Rattle.std.proofs.lemmas.Slice.Eq.{bytes_eq-Decides}
use Rattle.infra_reader.specs.Names.{Names, is_among, number_in, repeated, is_second, overlaps_repeated, repeated_names}
use Rattle.infra_reader.specs.Unknown.{unless_among, edge_unknown, signal_unknown, train_unknown, order_unknown, within_unknown, overlap_unknown, track_unknown, traffic_unknown, unknown_names}
use Rattle.infra_reader.specs.Limits.{Limit, limit, is_kept, limits_outside, unless_from, count_outside, array_outside, edge_outside, vehicle_outside, are_few_visits, are_good_dwells as are_dwells, train_outside, within_outside, overlap_limits, overlap_outside, is_horizon, times_outside, track_outside, traffic_outside, out_of_range}
use Rattle.infra_reader.specs.Track.{ends_at, is_crowded, is_loop, is_open, is_beside, is_misplaced, crowded, open_boundaries, misplaced_signals}
use Rattle.infra_reader.specs.Traffic.{if_zero, vehicle_zeros, zeros, can_enter, inner_starts, unless_visit, order_missing, within_missing, missing_visits}
use Rattle.infra_reader.proofs.Apart.{names_apart, any_turned}
use Rattle.infra_reader.proofs.EndCounts.{leave_count}
use Rattle.design_text.proofs.Splitting.{neither}
use Rattle.design_text.proofs.Nowhere.{unmet, met, nothing, nowhere, nowhere_made, nowhere_at}
use Rattle.design_text.proofs.Distinct.{none_before, among, among_entries}
use Rattle.design_text.proofs.Sheets.{parsed_dwells, node_named, section_named, signal_named, vehicle_named, train_named, parsed_node, parsed_edge, parsed_signal, parsed_vehicle, parsed_train, parsed_order, parsed_within, parsed_overlap, sheet}
use Rattle.design_text.proofs.Admitting.{ranged, are_distinct, node_names, edge_names, signal_names, vehicle_names, train_names, few, timed, named, node_parts, edge_parts, signal_parts, vehicle_parts, train_parts, dwell_parts, set_parts, visit_parts, order_parts, within_parts, overlap_parts, is_section, overlaps_differ, overlaps_apart, overlaps_most, good_node, good_edge, good_signal, signals_apart, good_vehicle, good_train, dwell_most, dwell_count, good_order, good_within, good_overlap}
use Rattle.design_text.proofs.Returning.{own_names, names_are, signal_number}

-- ---- many parts that have no place

three_nothing : (a b c : List Place) → a ≡ [] → b ≡ [] → c ≡ [] → a ++ (b ++ c) ≡ []
three_nothing a b c p q r = rw (p, q, r) refl

four_nothing : (a b c d : List Place) → a ≡ [] → b ≡ [] → c ≡ [] → d ≡ [] → a ++ (b ++ (c ++ d)) ≡ []
four_nothing a b c d p q r s = rw (p, q, r, s) refl

five_nothing : (a b c d e : List Place) → a ≡ [] → b ≡ [] → c ≡ [] → d ≡ [] → e ≡ [] → a ++ (b ++ (c ++ (d ++ e))) ≡ []
five_nothing a b c d e p q r s t = rw (p, q, r, s, t) refl

six_nothing : (a b c d e f : List Place) → a ≡ [] → b ≡ [] → c ≡ [] → d ≡ [] → e ≡ [] → f ≡ [] → a ++ (b ++ (c ++ (d ++ (e ++ f)))) ≡ []
six_nothing a b c d e f p q r s t u = rw (p, q, r, s, t, u) refl

-- ---- names that stand once, names that are there, and numbers in range

no_repeat : (kind : EntryKind) (names : List (List ℕ)) → all_pairs names_apart names ≡ true → repeated kind names ≡ []
unfolding repeated
no_repeat kind names h = nowhere_at (λ i name. at (is_among (take (i - 1) names) name) (Field kind i keys.Name)) 1 names [] once
  where
    once : (k : ℕ) → k < length names → at (is_among (take (1 + k - 1) names) (get_or names k [])) (Field kind (1 + k) keys.Name) ≡ []
    once k l =
        let back : k ≡ 1 + k - 1 = omega arith in
        unmet (is_among (take (1 + k - 1) names) (get_or names k [])) (Field kind (1 + k) keys.Name)
        (subst (λ n. is_among (take n names) (get_or names k []) ≡ false) back (sym (any_turned (get_or names k []) (take k names)) ∙ none_before bytes_eq names k [] h l))

no_repeat_made : {X Y : Type 0} (kind : EntryKind) (make : X → Y) (name : Y → List ℕ) (xs : List X) → all_pairs names_apart (map (λ x. name (make x)) xs) ≡ true → repeated kind (map name (map make xs)) ≡ []
no_repeat_made kind make name xs h = no_repeat kind (map name (map make xs)) (subst (λ names. all_pairs names_apart names ≡ true) (sym (map-map name make xs)) h)

-- no signal has two overlaps
no_second : (signals names : List (List ℕ)) → all_pairs names_apart names ≡ true → overlaps_repeated signals names ≡ []
unfolding overlaps_repeated
no_second signals names h = nowhere_at (λ i name. at (is_second signals names i name) (Field kinds.Overlap i keys.Signal)) 1 names [] once
  where
    once : (k : ℕ) → k < length names → at (is_second signals names (1 + k) (get_or names k [])) (Field kinds.Overlap (1 + k) keys.Signal) ≡ []
    once k l =
        let back : k ≡ 1 + k - 1 = omega arith in
        let name = get_or names k [] in
        unmet (is_second signals names (1 + k) name) (Field kinds.Overlap (1 + k) keys.Signal)
        (ap (λ b. b && is_among signals name) (subst (λ n. is_among (take n names) name ≡ false) back (sym (any_turned name (take k names)) ∙ none_before bytes_eq names k [] h l)))

known : (names : List (List ℕ)) (name : List ℕ) (place : Place) → is_among names name ≡ true → unless_among names name place ≡ []
unfolding unless_among
known names name place h = met (is_among names name) place h

inside : (low high n : ℕ) (place : Place) → is_from low high n ≡ true → unless_from low high (pos n) place ≡ []
unfolding unless_from
inside low high n place h = met (is_from low high n) place h

-- a key with one number, and the keys after it
row_inside : (kind : EntryKind) (i : ℕ) (key : Key) (low high n : ℕ) (rest : List Limit) → is_from low high n ≡ true → limits_outside kind i rest ≡ [] → limits_outside kind i (limit key low high (pos n ∷ []) ∷ rest) ≡ []
row_inside kind i key low high n rest h none =
    nothing (at (not (is_from low high n && true)) (Field kind i key)) (limits_outside kind i rest) (met (is_from low high n && true) (Field kind i key) (and_both (is_from low high n) true h refl)) none

-- how long a train stands
dwells_kept : (dwells : List ℕ) → ((ms : ℕ) → In ms dwells → ms ≤ 3600000) → is_kept (limit keys.DwellMs 0 3600000 (map (λ n. pos n) dwells)) ≡ true
dwells_kept [] most = refl
dwells_kept (n ∷ ns) most =
    let here = most n (inl refl) in
    let small : is_from 0 3600000 n ≡ true = grind arith in
    and_both (is_from 0 3600000 n) (is_kept (limit keys.DwellMs 0 3600000 (map (λ n. pos n) ns))) small (dwells_kept ns (λ ms i. most ms (inr i)))

first_still : (dwells : List ℕ) → (entry 0 dwells 1 == 0) ≡ true → int_eq (entry (pos 0) (map (λ n. pos n) dwells) 1) (pos 0) ≡ true
first_still [] h = refl
first_still (n ∷ ns) h = let still = eqb-true n 0 h in rw still refl

dwells_good : (b : Bool) (visits : List (List (List ℕ))) (dwells : List ℕ) → length dwells ≡ length visits → ((ms : ℕ) → In ms dwells → ms ≤ 3600000) → (entry 0 dwells 1 == 0) ≡ true → are_dwells visits (parsed_dwells b dwells) ≡ true
dwells_good false visits dwells count most still = refl
dwells_good true visits dwells count most still =
    let ms = map (λ n. pos n) dwells in
    let size = length-map (λ n. pos n) dwells in
    let same : (length ms == length visits) ≡ true = grind arith in
    let kept = is_kept (limit keys.DwellMs 0 3600000 ms) in
    and_both ((length ms == length visits) && kept) (int_eq (entry (pos 0) ms 1) (pos 0)) (and_both (length ms == length visits) kept same (dwells_kept dwells most)) (first_still dwells still)

so_many : {X Y : Type 0} (make : X → Y) (least most : ℕ) (key : Key) (xs : List X) → is_from least most (length xs) ≡ true → count_outside least most key (map make xs) ≡ []
unfolding count_outside
so_many make least most key xs h = met (is_from least most (length (map make xs))) (Top key) (subst (λ n. is_from least most n ≡ true) (sym (length-map make xs)) h)

array_inside : {X Y : Type 0} (outside : ℕ → Y → List Place) (make : X → Y) (least most : ℕ) (key : Key) (xs : List X) → is_from least most (length xs) ≡ true → ((n : ℕ) (x : X) → In x xs → outside n (make x) ≡ []) → array_outside outside least most key (map make xs) ≡ []
unfolding array_outside
array_inside outside make least most key xs h each = nothing (count_outside least most key (map make xs)) (in_each outside (map make xs)) (so_many make least most key xs h) (nowhere_made outside make xs each)

at_most : (most n : ℕ) → nat_le n most ≡ true → is_from 0 most n ≡ true
at_most most n h = and_both (nat_le 0 n) (nat_le n most) (grind arith) h

moves : (rate : ℕ) (place : Place) → nat_le 1 rate ≡ true → if_zero rate place ≡ []
unfolding if_zero
moves rate place h = unmet (rate == 0) place (grind arith)

visited : (d : Station) (t : TrainNo) (j : ℕ) (place : Place) → is_visit d t j ≡ true → unless_visit d t j place ≡ []
unfolding unless_visit
visited d t j place h = met (is_visit d t j) place h

-- 1 ms or more, where there is a tick
some_time : (h t : ℕ) → 1 ≤ h / t → nat_le 1 h ≡ true
some_time h t l = grind arith

module _ (d : Station) (admitted : is_admitted d ≡ true) where
  -- ---- signals of overlaps

  abbrev overlap_name : Overlap → List ℕ
  overlap_name o = signal_named d o.signal

  one_apart : (o p : Overlap) → In o d.overlaps → In p d.overlaps → overlaps_differ o p ≡ true → names_apart (overlap_name o) (overlap_name p) ≡ true
  one_apart o p m k h = go (bytes_eq (overlap_name o) (overlap_name p)) refl
    where
      number : (o : Overlap) → In o d.overlaps → number_in (signal_names d) (overlap_name o) ≡ o.signal.0
      number o m = signal_number d admitted o.signal (ranged 1 (length d.signals) o.signal.0 (overlap_parts d o (good_overlap d admitted o m)).0)

      go : (b : Bool) → bytes_eq (overlap_name o) (overlap_name p) ≡ b → not b ≡ true
      go false e = refl
      go true e =
          let same = (bytes_eq-Decides (overlap_name o) (overlap_name p)).0 e in
          sym (ap not (eq-eqb o.signal.0 p.signal.0 (sym (number o m) ∙ ap (number_in (signal_names d)) same ∙ number p k))) ∙ h

  names_from : (os : List Overlap) → ((o : Overlap) → In o os → In o d.overlaps) → all_pairs overlaps_differ os ≡ true → all_pairs names_apart (map overlap_name os) ≡ true
  names_from [] there h = refl
  names_from (o ∷ os) there h =
      let here = list_all (overlaps_differ o) os in
      let more = all_pairs overlaps_differ os in
      and_both (list_all (names_apart (overlap_name o)) (map overlap_name os)) (all_pairs names_apart (map overlap_name os))
      (list_all_from (names_apart (overlap_name o)) (map overlap_name os) (λ n m.
      let x = in_map_back overlap_name os n m in
      subst (λ n. names_apart (overlap_name o) n ≡ true) x.2 (one_apart o x.0 (there o (inl refl)) (there x.0 (inr x.1)) (list_all_at (overlaps_differ o) os x.0 (and_left here more h) x.1))))
      (names_from os (λ p m. there p (inr m)) (and_right here more h))

  overlap_names_apart : all_pairs names_apart (map (λ (o : ParsedOverlap). o.signal) (map (parsed_overlap d) d.overlaps)) ≡ true
  overlap_names_apart =
      subst (λ names. all_pairs names_apart names ≡ true) (sym (map-map (λ (o : ParsedOverlap). o.signal) (parsed_overlap d) d.overlaps)) (names_from d.overlaps (λ o m. m) (overlaps_apart d admitted))

  -- ---- D03: names that stand twice

  pub once_named : repeated_names (sheet d) ≡ []
  unfolding repeated_names
  once_named =
      let n = named d admitted in
      let signals = map (λ (s : ParsedSignal). s.name) (map (parsed_signal d) d.signals) in
      let overlap_names = map (λ (o : ParsedOverlap). o.signal) (map (parsed_overlap d) d.overlaps) in
      six_nothing
      (repeated kinds.Node (map (λ (n : ParsedNode). n.name) (map (parsed_node d) d.nodes))) (repeated kinds.Edge (map (λ (e : ParsedEdge). e.name) (map (parsed_edge d) d.edges))) (repeated kinds.Signal (map (λ (s : ParsedSignal). s.name) (map (parsed_signal d) d.signals)))
      (repeated kinds.Vehicle (map (λ (v : ParsedVehicle). v.name) (map (parsed_vehicle d) d.vehicles))) (repeated kinds.Train (map (λ (t : ParsedTrain). t.name) (map (parsed_train d) d.trains))) (overlaps_repeated signals overlap_names)
      (no_repeat_made kinds.Node (parsed_node d) (λ (n : ParsedNode). n.name) d.nodes (are_distinct (node_names d) n.0))
      (no_repeat_made kinds.Edge (parsed_edge d) (λ (e : ParsedEdge). e.name) d.edges (are_distinct (edge_names d) n.1))
      (no_repeat_made kinds.Signal (parsed_signal d) (λ (s : ParsedSignal). s.name) d.signals (are_distinct (signal_names d) n.3))
      (no_repeat_made kinds.Vehicle (parsed_vehicle d) (λ (v : ParsedVehicle). v.name) d.vehicles (are_distinct (vehicle_names d) n.4))
      (no_repeat_made kinds.Train (parsed_train d) (λ (t : ParsedTrain). t.name) d.trains (are_distinct (train_names d) n.5))
      (no_second signals overlap_names overlap_names_apart)

  -- ---- D04: names that are not there

  abbrev names : Names
  names = own_names d admitted

  node_among : (n : NodeNo) → is_node d n ≡ true → is_among (node_names d) (node_named d n) ≡ true
  node_among n h =
      let r = ranged 1 (length d.nodes) n.0 h in
      among_entries (λ (n : Node). n.name) (record { name = []; boundary = false }) d.nodes refl n.0 r.0 r.1

  vehicle_among : (v : VehicleNo) → is_vehicle d v ≡ true → is_among (vehicle_names d) (vehicle_named d v) ≡ true
  vehicle_among v h =
      let r = ranged 1 (length d.vehicles) v.0 h in
      among_entries (λ (v : Vehicle). v.name) (record { name = []; length_mm = 0; accel_mm_s2 = 0; brake_mm_s2 = 0; speed_mm_s = 0 }) d.vehicles refl v.0 r.0 r.1

  train_among : (t : TrainNo) (j : ℕ) → is_visit d t j ≡ true → is_among (train_names d) (train_named d t) ≡ true
  train_among t j h =
      let r = ranged 1 (length d.trains) t.0 (visit_parts d t j h).0 in
      among_entries (λ (t : Train). t.name) no_train d.trains refl t.0 r.0 r.1

  edge_known : (i : ℕ) (e : Edge) → In e d.edges → edge_unknown names i (parsed_edge d e) ≡ []
  edge_known i e m =
      let f = edge_parts d e (good_edge d admitted e m) in
      nothing (unless_among (node_names d) (node_named d e.from.node) (Field kinds.Edge i keys.From)) (unless_among (node_names d) (node_named d e.to.node) (Field kinds.Edge i keys.To))
      (known (node_names d) (node_named d e.from.node) (Field kinds.Edge i keys.From) (node_among e.from.node f.0))
      (known (node_names d) (node_named d e.to.node) (Field kinds.Edge i keys.To) (node_among e.to.node f.1))

  signal_known : (i : ℕ) (s : Signal) → In s d.signals → signal_unknown names i (parsed_signal d s) ≡ []
  signal_known i s m = known (node_names d) (node_named d s.node) (Field kinds.Signal i keys.Node) (node_among s.node (signal_parts d s (good_signal d admitted s m)).0)

  visits_among : (visits : List (List NodeNo)) → list_all (is_good_set d) visits ≡ true → list_all (list_all (is_among (node_names d))) (map (map (node_named d)) visits) ≡ true
  visits_among visits h =
      list_all_from (list_all (is_among (node_names d))) (map (map (node_named d)) visits) (λ set m.
      let x = in_map_back (map (node_named d)) visits set m in
      subst (λ set. list_all (is_among (node_names d)) set ≡ true) x.2 (set_among x.0 (list_all_at (is_good_set d) visits x.0 h x.1)))
    where
      set_among : (set : List NodeNo) → is_good_set d set ≡ true → list_all (is_among (node_names d)) (map (node_named d) set) ≡ true
      set_among set good =
          list_all_from (is_among (node_names d)) (map (node_named d) set) (λ name m.
          let x = in_map_back (node_named d) set name m in
          subst (λ name. is_among (node_names d) name ≡ true) x.2 (node_among x.0 (list_all_at (is_node d) set x.0 (set_parts d set good).1 x.1)))

  train_known : (i : ℕ) (t : Train) → In t d.trains → train_unknown names i (parsed_train d t) ≡ []
  train_known i t m =
      let f = train_parts d t (good_train d admitted t m) in
      let all = list_all (list_all (is_among (node_names d))) (map (map (node_named d)) t.visits) in
      nothing (unless_among (vehicle_names d) (vehicle_named d t.vehicle) (Field kinds.Train i keys.Vehicle)) (at (not all) (Field kinds.Train i keys.Visits))
      (known (vehicle_names d) (vehicle_named d t.vehicle) (Field kinds.Train i keys.Vehicle) (vehicle_among t.vehicle f.0))
      (met all (Field kinds.Train i keys.Visits) (visits_among t.visits f.2))

  order_known : (i : ℕ) (o : Order) → In o d.orders → order_unknown names i (parsed_order d o) ≡ []
  order_known i o m =
      let f = order_parts d o (good_order d admitted o m) in
      nothing (unless_among (train_names d) (train_named d o.first_train) (Field kinds.Order i keys.FirstTrain)) (unless_among (train_names d) (train_named d o.then_train) (Field kinds.Order i keys.ThenTrain))
      (known (train_names d) (train_named d o.first_train) (Field kinds.Order i keys.FirstTrain) (train_among o.first_train o.first_visit f.0))
      (known (train_names d) (train_named d o.then_train) (Field kinds.Order i keys.ThenTrain) (train_among o.then_train o.then_visit f.1))

  within_known : (i : ℕ) (w : Within) → In w d.withins → within_unknown names i (parsed_within d w) ≡ []
  within_known i w m =
      let f = within_parts d w (good_within d admitted w m) in
      nothing (unless_among (train_names d) (train_named d w.from_train) (Field kinds.Within i keys.FromTrain)) (unless_among (train_names d) (train_named d w.to_train) (Field kinds.Within i keys.ToTrain))
      (known (train_names d) (train_named d w.from_train) (Field kinds.Within i keys.FromTrain) (train_among w.from_train w.from_visit f.0))
      (known (train_names d) (train_named d w.to_train) (Field kinds.Within i keys.ToTrain) (train_among w.to_train w.to_visit f.1))

  signal_among : (s : SignalNo) → is_from 1 (length d.signals) s.0 ≡ true → is_among (signal_names d) (signal_named d s) ≡ true
  signal_among s h =
      let r = ranged 1 (length d.signals) s.0 h in
      among_entries (λ (s : Signal). s.name) (record { name = []; node = record { 0 = 0 }; toward = A }) d.signals refl s.0 r.0 r.1

  sections_among : (sections : List SectionNo) → list_all (is_section d) sections ≡ true → list_all (is_among d.sections) (map (section_named d) sections) ≡ true
  sections_among sections h =
      list_all_from (is_among d.sections) (map (section_named d) sections) (λ name m.
      let x = in_map_back (section_named d) sections name m in
      let r = ranged 1 (length d.sections) x.0.0 (list_all_at (is_section d) sections x.0 h x.1) in
      subst (λ name. is_among d.sections name ≡ true) x.2 (among d.sections x.0.0 r.0 r.1))

  overlap_known : (i : ℕ) (o : Overlap) → In o d.overlaps → overlap_unknown names i (parsed_overlap d o) ≡ []
  overlap_known i o m =
      let f = overlap_parts d o (good_overlap d admitted o m) in
      let all = list_all (is_among d.sections) (map (section_named d) o.sections) in
      nothing (unless_among (signal_names d) (signal_named d o.signal) (Field kinds.Overlap i keys.Signal)) (at (not all) (Field kinds.Overlap i keys.Sections))
      (known (signal_names d) (signal_named d o.signal) (Field kinds.Overlap i keys.Signal) (signal_among o.signal f.0))
      (met all (Field kinds.Overlap i keys.Sections) (sections_among o.sections f.2))

  track_known : track_unknown names (sheet d) ≡ []
  unfolding track_unknown
  track_known =
      nothing (in_each (edge_unknown names) (map (parsed_edge d) d.edges)) (in_each (signal_unknown names) (map (parsed_signal d) d.signals))
      (nowhere_made (edge_unknown names) (parsed_edge d) d.edges edge_known) (nowhere_made (signal_unknown names) (parsed_signal d) d.signals signal_known)

  traffic_known : traffic_unknown names (sheet d) ≡ []
  unfolding traffic_unknown
  traffic_known =
      four_nothing (in_each (train_unknown names) (map (parsed_train d) d.trains)) (in_each (order_unknown names) (map (parsed_order d) d.orders)) (in_each (within_unknown names) (map (parsed_within d) d.withins)) (in_each (overlap_unknown names) (map (parsed_overlap d) d.overlaps))
      (nowhere_made (train_unknown names) (parsed_train d) d.trains train_known) (nowhere_made (order_unknown names) (parsed_order d) d.orders order_known) (nowhere_made (within_unknown names) (parsed_within d) d.withins within_known) (nowhere_made (overlap_unknown names) (parsed_overlap d) d.overlaps overlap_known)

  pub all_known : unknown_names (sheet d) ≡ []
  all_known = subst (λ ns. track_unknown ns (sheet d) ++ traffic_unknown ns (sheet d) ≡ []) (sym (names_are d admitted)) (nothing (track_unknown names (sheet d)) (traffic_unknown names (sheet d)) track_known traffic_known)

  -- ---- D05: numbers and counts that are out of range

  times_inside : times_outside (sheet d) ≡ []
  unfolding times_outside
  times_inside =
      let t = timed d admitted in
      let ticks = ranged 1 86400 (horizon d) t.2 in
      let fits = is_horizon (pos d.horizon_ms) (pos d.tick_ms) in
      three_nothing (unless_from 1 4 (pos d.version) (Top keys.Version)) (unless_from 100 1000 (pos d.tick_ms) (Top keys.TickMs)) (at (not fits) (Top keys.HorizonMs))
      (inside 1 4 d.version (Top keys.Version) t.0)
      (inside 100 1000 d.tick_ms (Top keys.TickMs) t.1)
      (met fits (Top keys.HorizonMs) (and_both (nat_le 1 d.horizon_ms) (nat_le (d.horizon_ms / d.tick_ms) 86400) (some_time d.horizon_ms d.tick_ms ticks.0) (and_right (nat_le 1 (horizon d)) (nat_le (horizon d) 86400) t.2)))

  edge_inside : (i : ℕ) (e : Edge) → In e d.edges → edge_outside i (parsed_edge d e) ≡ []
  edge_inside i e m =
      let f = edge_parts d e (good_edge d admitted e m) in
      row_inside kinds.Edge i keys.LengthMm 1 10000000 e.length_mm (limit keys.SpeedMmS 1 100000 (pos e.speed_mm_s ∷ []) ∷ []) f.3 (
      row_inside kinds.Edge i keys.SpeedMmS 1 100000 e.speed_mm_s [] f.4 refl)

  vehicle_inside : (i : ℕ) (v : Vehicle) → In v d.vehicles → vehicle_outside i (parsed_vehicle d v) ≡ []
  vehicle_inside i v m =
      let f = vehicle_parts d v (good_vehicle d admitted v m) in
      row_inside kinds.Vehicle i keys.LengthMm 1 2000000 v.length_mm (limit keys.AccelMmS2 1 100000 (pos v.accel_mm_s2 ∷ []) ∷ limit keys.BrakeMmS2 1 100000 (pos v.brake_mm_s2 ∷ []) ∷ limit keys.SpeedMmS 1 100000 (pos v.speed_mm_s ∷ []) ∷ []) f.0 (
      row_inside kinds.Vehicle i keys.AccelMmS2 1 100000 v.accel_mm_s2 (limit keys.BrakeMmS2 1 100000 (pos v.brake_mm_s2 ∷ []) ∷ limit keys.SpeedMmS 1 100000 (pos v.speed_mm_s ∷ []) ∷ []) f.1 (
      row_inside kinds.Vehicle i keys.BrakeMmS2 1 100000 v.brake_mm_s2 (limit keys.SpeedMmS 1 100000 (pos v.speed_mm_s ∷ []) ∷ []) f.2 (
      row_inside kinds.Vehicle i keys.SpeedMmS 1 100000 v.speed_mm_s [] f.3 refl)))

  few_visits : (visits : List (List NodeNo)) → is_from 1 16 (length visits) ≡ true → list_all (is_good_set d) visits ≡ true → are_few_visits (map (map (node_named d)) visits) ≡ true
  few_visits visits count good =
      and_both (is_from 1 16 (length (map (map (node_named d)) visits))) (list_all (λ (visit : List (List ℕ)). is_from 1 64 (length visit)) (map (map (node_named d)) visits))
      (subst (λ n. is_from 1 16 n ≡ true) (sym (length-map (map (node_named d)) visits)) count)
      (list_all_from (λ (visit : List (List ℕ)). is_from 1 64 (length visit)) (map (map (node_named d)) visits) (λ set m.
      let x = in_map_back (map (node_named d)) visits set m in
      subst (λ (set : List (List ℕ)). is_from 1 64 (length set) ≡ true) x.2 (subst (λ n. is_from 1 64 n ≡ true) (sym (length-map (node_named d) x.0)) (set_parts d x.0 (list_all_at (is_good_set d) visits x.0 good x.1)).0)))

  train_inside : (i : ℕ) (t : Train) → In t d.trains → train_outside i (parsed_train d t) ≡ []
  train_inside i t m =
      let f = train_parts d t (good_train d admitted t m) in
      let visits = map (map (node_named d)) t.visits in
      let dwells = parsed_dwells (nat_le 3 d.version) t.dwell_ms in
      nothing (at (not (are_few_visits visits)) (Field kinds.Train i keys.Visits)) (at (not (are_dwells visits dwells)) (Field kinds.Train i keys.DwellMs))
      (met (are_few_visits visits) (Field kinds.Train i keys.Visits) (few_visits t.visits f.1 f.2))
      (met (are_dwells visits dwells) (Field kinds.Train i keys.DwellMs)
      (dwells_good (nat_le 3 d.version) visits t.dwell_ms (dwell_count d admitted t m ∙ sym (length-map (map (node_named d)) t.visits)) (dwell_most d admitted t m) (dwell_parts d t f.4).2))

  within_inside : (i : ℕ) (w : Within) → In w d.withins → within_outside i (parsed_within d w) ≡ []
  within_inside i w m = row_inside kinds.Within i keys.MaxMs 0 86400000 w.max_ms [] (at_most 86400000 w.max_ms (within_parts d w (good_within d admitted w m)).2) refl

  overlap_inside : (i : ℕ) (o : Overlap) → In o d.overlaps → overlap_outside i (parsed_overlap d o) ≡ []
  overlap_inside i o m =
      let f = overlap_parts d o (good_overlap d admitted o m) in
      let few_of = is_from 1 16 (length (map (section_named d) o.sections)) in
      nothing (at (not few_of) (Field kinds.Overlap i keys.Sections)) (limits_outside kinds.Overlap i (overlap_limits (parsed_overlap d o)))
      (met few_of (Field kinds.Overlap i keys.Sections) (subst (λ n. is_from 1 16 n ≡ true) (sym (length-map (section_named d) o.sections)) f.1))
      (row_inside kinds.Overlap i keys.HoldMs 0 600000 o.hold_ms [] (at_most 600000 o.hold_ms f.3) refl)

  track_inside : track_outside (sheet d) ≡ []
  unfolding track_outside
  track_inside =
      let f = few d admitted in
      three_nothing (count_outside 0 2000 keys.Node (map (parsed_node d) d.nodes)) (array_outside edge_outside 0 4000 keys.Edge (map (parsed_edge d) d.edges)) (count_outside 0 1000 keys.Signal (map (parsed_signal d) d.signals))
      (so_many (parsed_node d) 0 2000 keys.Node d.nodes (at_most 2000 (length d.nodes) f.0))
      (array_inside edge_outside (parsed_edge d) 0 4000 keys.Edge d.edges (at_most 4000 (length d.edges) f.1) edge_inside)
      (so_many (parsed_signal d) 0 1000 keys.Signal d.signals (at_most 1000 (length d.signals) f.2))

  traffic_inside : traffic_outside (sheet d) ≡ []
  unfolding traffic_outside
  traffic_inside =
      let f = few d admitted in
      let many = le-leb (length d.overlaps) 1000 (overlaps_most d admitted) in
      five_nothing (array_outside vehicle_outside 0 64 keys.Vehicle (map (parsed_vehicle d) d.vehicles)) (array_outside train_outside 1 128 keys.Train (map (parsed_train d) d.trains)) (count_outside 0 256 keys.Order (map (parsed_order d) d.orders)) (array_outside within_outside 0 256 keys.Within (map (parsed_within d) d.withins)) (array_outside overlap_outside 0 1000 keys.Overlap (map (parsed_overlap d) d.overlaps))
      (array_inside vehicle_outside (parsed_vehicle d) 0 64 keys.Vehicle d.vehicles (at_most 64 (length d.vehicles) f.3) vehicle_inside)
      (array_inside train_outside (parsed_train d) 1 128 keys.Train d.trains f.4 train_inside)
      (so_many (parsed_order d) 0 256 keys.Order d.orders (at_most 256 (length d.orders) f.5))
      (array_inside within_outside (parsed_within d) 0 256 keys.Within d.withins (at_most 256 (length d.withins) f.6) within_inside)
      (array_inside overlap_outside (parsed_overlap d) 0 1000 keys.Overlap d.overlaps (at_most 1000 (length d.overlaps) many) overlap_inside)

  pub all_inside : out_of_range (sheet d) ≡ []
  unfolding out_of_range
  all_inside = three_nothing (times_outside (sheet d)) (track_outside (sheet d)) (traffic_outside (sheet d)) times_inside track_inside traffic_inside

  -- ---- D06 to D08: the track

  no_loop : (e : Edge) → In e d.edges → is_loop e ≡ false
  no_loop e m = is_false (is_loop e) (edge_parts d e (good_edge d admitted e m)).2

  few_ends : (a b : ℕ) → nat_le a 2 ≡ true → nat_le b 2 ≡ true → nat_le (a + b) 3 ≡ true → (nat_le 3 a || nat_le 3 b || (nat_le 2 a && nat_le 2 b)) ≡ false
  few_ends a b p q r =
      let x = leb-true a 2 p in
      let y = leb-true b 2 q in
      let z = leb-true (a + b) 3 r in
      neither (nat_le 3 a || nat_le 3 b) (nat_le 2 a && nat_le 2 b)
      (neither (nat_le 3 a) (nat_le 3 b) (false_unless (nat_le 3 a) (λ t. let l = leb-true 3 a t in absurd (omega arith))) (false_unless (nat_le 3 b) (λ t. let l = leb-true 3 b t in absurd (omega arith))))
      (false_unless (nat_le 2 a && nat_le 2 b) (λ t. let l = leb-true 2 a (and_left (nat_le 2 a) (nat_le 2 b) t) in let m = leb-true 2 b (and_right (nat_le 2 a) (nat_le 2 b) t) in absurd (omega arith)))

  one_end : (boundary : Bool) (n : ℕ) → (not boundary || (n == 1)) ≡ true → (boundary && not (n == 1)) ≡ false
  one_end true n h = ap not h
  one_end false n h = refl

  ends_are_a : (k : ℕ) → ends_a d (record { 0 = k }) ≡ ends_at d k A
  ends_are_a k = leave_count d k A no_loop

  ends_are_b : (k : ℕ) → ends_b d (record { 0 = k }) ≡ ends_at d k B
  ends_are_b k = leave_count d k B no_loop

  not_crowded : (k : ℕ) → k < length d.nodes → is_crowded d (1 + k) ≡ false
  not_crowded k l =
      let f = node_parts d (record { 0 = 1 + k }) (good_node d admitted k l) in
      let a = ends_are_a (1 + k) in
      let b = ends_are_b (1 + k) in
      few_ends (ends_at d (1 + k) A) (ends_at d (1 + k) B)
      (subst (λ n. nat_le n 2 ≡ true) a f.0) (subst (λ n. nat_le n 2 ≡ true) b f.1) (subst (λ n. nat_le n 3 ≡ true) (ap₂ (λ a b. a + b) a b) f.2)

  not_open : (k : ℕ) → k < length d.nodes → is_open d (1 + k) (node_of d (record { 0 = suc k })) ≡ false
  not_open k l =
      let f = node_parts d (record { 0 = 1 + k }) (good_node d admitted k l) in
      let same : 1 + k ≡ suc k = omega arith in
      let ends = ap₂ (λ a b. a + b) (ends_are_a (1 + k)) (ends_are_b (1 + k)) in
      one_end (node_of d (record { 0 = suc k })).boundary (ends_at d (1 + k) A + ends_at d (1 + k) B)
      (subst (λ n. (not (node_of d (record { 0 = suc k })).boundary || (n == 1)) ≡ true) ends (subst (λ i. (not (node_of d (record { 0 = i })).boundary || (ends_a d (record { 0 = 1 + k }) + ends_b d (record { 0 = 1 + k }) == 1)) ≡ true) same f.3))

  pub none_crowded : crowded d ≡ []
  unfolding crowded
  none_crowded =
      nothing (in_each (λ i (n : Node). at (is_crowded d i) (Entry kinds.Node i)) d.nodes) (in_each (λ i e. at (is_loop e) (Entry kinds.Edge i)) d.edges)
      (nowhere_at (λ i (n : Node). at (is_crowded d i) (Entry kinds.Node i)) 1 d.nodes (record { name = []; boundary = false }) (λ k l. unmet (is_crowded d (1 + k)) (Entry kinds.Node (1 + k)) (not_crowded k l)))
      (nowhere (λ i e. at (is_loop e) (Entry kinds.Edge i)) 1 d.edges (λ i e m. unmet (is_loop e) (Entry kinds.Edge i) (no_loop e m)))

  pub none_open : open_boundaries d ≡ []
  unfolding open_boundaries
  none_open =
      let other : Node = record { name = []; boundary = false } in
      nowhere_at (λ i (n : Node). at (is_open d i n) (Entry kinds.Node i)) 1 d.nodes other (λ k l. unmet (is_open d (1 + k) (get_or d.nodes k other)) (Entry kinds.Node (1 + k)) (not_open k l))

  well_placed : (k : ℕ) (other : Signal) → k < length d.signals → is_misplaced d (1 + k) (get_or d.signals k other) ≡ false
  well_placed k other l =
      let s = get_or d.signals k other in
      let back : k ≡ 1 + k - 1 = omega arith in
      neither (node_of d s.node).boundary (list_any (λ q. is_beside q s) (take (1 + k - 1) d.signals))
      (is_false (node_of d s.node).boundary (signal_parts d s (good_signal d admitted s (in_at d.signals k other l))).1)
      (subst (λ n. list_any (λ q. is_beside q s) (take n d.signals) ≡ false) back (none_before is_beside d.signals k other (signals_apart d admitted) l))

  pub none_misplaced : misplaced_signals d ≡ []
  unfolding misplaced_signals
  none_misplaced =
      let other : Signal = record { name = []; node = record { 0 = 0 }; toward = A } in
      nowhere_at (λ i q. at (is_misplaced d i q) (Entry kinds.Signal i)) 1 d.signals other (λ k l. unmet (is_misplaced d (1 + k) (get_or d.signals k other)) (Entry kinds.Signal (1 + k)) (well_placed k other l))

  -- ---- D09 to D11: numbers per tick, first visits, and visits of requirements

  vehicle_moves : (i : ℕ) (v : Vehicle) → In v d.vehicles → vehicle_zeros d i v ≡ []
  vehicle_moves i v m =
      let f = vehicle_parts d v (good_vehicle d admitted v m) in
      let place = Field kinds.Vehicle i in
      three_nothing (if_zero (per_tick_accel d v.accel_mm_s2) (place keys.AccelMmS2)) (if_zero (per_tick_accel d v.brake_mm_s2) (place keys.BrakeMmS2)) (if_zero (per_tick_speed d v.speed_mm_s) (place keys.SpeedMmS))
      (moves (per_tick_accel d v.accel_mm_s2) (place keys.AccelMmS2) f.4) (moves (per_tick_accel d v.brake_mm_s2) (place keys.BrakeMmS2) f.5) (moves (per_tick_speed d v.speed_mm_s) (place keys.SpeedMmS) f.6)

  pub none_zero : zeros d ≡ []
  unfolding zeros
  none_zero =
      three_nothing (if_zero (horizon d) (Top keys.HorizonMs)) (in_each (λ i (e : Edge). if_zero (per_tick_speed d e.speed_mm_s) (Field kinds.Edge i keys.SpeedMmS)) d.edges) (in_each (vehicle_zeros d) d.vehicles)
      (moves (horizon d) (Top keys.HorizonMs) (and_left (nat_le 1 (horizon d)) (nat_le (horizon d) 86400) (timed d admitted).2))
      (nowhere (λ i (e : Edge). if_zero (per_tick_speed d e.speed_mm_s) (Field kinds.Edge i keys.SpeedMmS)) 1 d.edges (λ i e m. moves (per_tick_speed d e.speed_mm_s) (Field kinds.Edge i keys.SpeedMmS) (edge_parts d e (good_edge d admitted e m)).5))
      (nowhere (vehicle_zeros d) 1 d.vehicles vehicle_moves)

  pub none_inner : inner_starts d ≡ []
  unfolding inner_starts
  none_inner = nowhere (λ i t. at (not (can_enter d t)) (Field kinds.Train i keys.Visits)) 1 d.trains (λ i t m. met (can_enter d t) (Field kinds.Train i keys.Visits) (train_parts d t (good_train d admitted t m)).3)

  order_there : (i : ℕ) (o : Order) → In o d.orders → order_missing d i o ≡ []
  order_there i o m =
      let f = order_parts d o (good_order d admitted o m) in
      nothing (unless_visit d o.first_train o.first_visit (Field kinds.Order i keys.FirstVisit)) (unless_visit d o.then_train o.then_visit (Field kinds.Order i keys.ThenVisit))
      (visited d o.first_train o.first_visit (Field kinds.Order i keys.FirstVisit) f.0) (visited d o.then_train o.then_visit (Field kinds.Order i keys.ThenVisit) f.1)

  within_there : (i : ℕ) (w : Within) → In w d.withins → within_missing d i w ≡ []
  within_there i w m =
      let f = within_parts d w (good_within d admitted w m) in
      nothing (unless_visit d w.from_train w.from_visit (Field kinds.Within i keys.FromVisit)) (unless_visit d w.to_train w.to_visit (Field kinds.Within i keys.ToVisit))
      (visited d w.from_train w.from_visit (Field kinds.Within i keys.FromVisit) f.0) (visited d w.to_train w.to_visit (Field kinds.Within i keys.ToVisit) f.1)

  pub none_missing : missing_visits d ≡ []
  unfolding missing_visits
  none_missing = nothing (in_each (order_missing d) d.orders) (in_each (within_missing d) d.withins) (nowhere (order_missing d) 1 d.orders order_there) (nowhere (within_missing d) 1 d.withins within_there)
