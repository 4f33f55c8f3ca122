-- The station of the sheet of an admitted design is the design.
use Rattle.std.proofs.Common.{◌≡◌, ℕ, ◌≤◌, ◌<◌, pos, Bool, true, nat_le, nat_lt, ◌*◌, ◌/◌, false, if◌then◌else◌, List, [], ◌∷◌, length, map, refl, sym, ap, ap₂, ◌∙◌, arith, inl, inr, leb-true}
use Rattle.std.proofs.Math.Nat.{mul-le-mul}
use Rattle.std.specs.List.{list_all}
use Rattle.rail_base.specs.declared.station.Station.{Station}
use Rattle.rail_base.specs.declared.station.Node.{Node}
use Rattle.rail_base.specs.declared.station.Edge.{Edge}
use Rattle.rail_base.specs.declared.station.End.{End}
use Rattle.rail_base.specs.declared.station.Signal.{Signal}
use Rattle.rail_base.specs.declared.station.Vehicle.{Vehicle}
use Rattle.rail_base.specs.declared.station.Train.{Train}
use Rattle.rail_base.specs.declared.station.Order.{Order}
use Rattle.rail_base.specs.declared.station.Within.{Within}
use Rattle.rail_base.specs.declared.station.Overlap.{Overlap}
use Rattle.rail_base.specs.declared.station.NodeNo.{NodeNo}
use Rattle.rail_base.specs.declared.station.SectionNo.{SectionNo}
use Rattle.rail_base.specs.declared.station.SignalNo.{SignalNo}
use Rattle.rail_base.specs.declared.station.TrainNo.{TrainNo}
use Rattle.rail_base.specs.declared.station.VehicleNo.{VehicleNo}
use Rattle.rail_base.specs.declared.station.Side.{Side}
use Rattle.rail_base.specs.declared.station.Side.TheVariants.{A, B}
use Rattle.rail_base.specs.Members.{In}
use Rattle.rail_base.specs.Stations.{no_train, train_of, horizon, longest_dwell, IsNode, IsSignal, IsVehicle, IsTrain}
use Rattle.rail_base.specs.Admitted.{Ranges}
use Rattle.rail_base.specs.Admission.{is_node, is_visit, is_good_set, is_admitted}
use Rattle.rail_base.proofs.Members.{map-map, list_all_at}
use Rattle.rail_base.proofs.Lists.{in_entry, length-map}
use Rattle.design_table.specs.Parsed.{ParsedNode, ParsedEdge, ParsedSignal, ParsedVehicle, ParsedTrain}
use Rattle.infra_reader.specs.Names.{Names, names_of, number_in, each_once}
use Rattle.infra_reader.specs.Stations.{number_32, side_of, end_in, node_in, edge_in, signal_in, vehicle_in, nodes_in, dwells_in, train_in, order_in, within_in, sections_in, overlap_in, station_in, station_of}
use Rattle.design_text.proofs.Distinct.{number_of, number_of_entry}
use Rattle.design_text.proofs.Sections.{once}
use Rattle.design_text.proofs.Sheets.{parsed_side, parsed_dwells, node_named, section_named, signal_named, vehicle_named, train_named, parsed_node, parsed_edge, parsed_signal, parsed_vehicle, parsed_train, parsed_order, parsed_within, parsed_overlap, sheet}
use Rattle.design_text.proofs.Admitting.{edge_parts, vehicle_parts, train_parts, signal_parts, set_parts, visit_parts, order_parts, within_parts, overlap_parts, is_section, ranged, are_distinct, node_names, signal_names, vehicle_names, train_names, timed, named, good_edge, sections_numbered, good_signal, good_vehicle, good_train, dwell_within, dwell_most, dwell_count, good_order, good_within, good_overlap}

-- ---- what is made and made back

made_back : {X Y : Type 0} (make : X → Y) (back : Y → X) (xs : List X) → ((x : X) → In x xs → back (make x) ≡ x) → map back (map make xs) ≡ xs
made_back make back [] same = refl
made_back make back (x ∷ xs) same = ap₂ (λ y ys. y ∷ ys) (same x (inl refl)) (made_back make back xs (λ y m. same y (inr m)))

side_back : (s : Side) → side_of (parsed_side s) ≡ s
side_back A = refl
side_back B = refl

-- numbers of 32 bits are kept
small : (n most : ℕ) → n ≤ most → most < 4294967296 → number_32 (pos n) ≡ n
small n most l h = kept (nat_lt n 4294967296) (grind arith)
  where
    kept : (b : Bool) → b ≡ true → (if b then n else 0) ≡ n
    kept b e = rw e refl

-- a number that goes a few times into a small one is small
small_product : (a b : ℕ) → 0 < b → b ≤ 1000 → a / b ≤ 86400 → a ≤ 86401000
small_product a b l u q = let p : b * (a / b) ≤ 1000 * 86400 = mul-le-mul u q in omega arith

-- a 0 for each
all_zero : {V : Type 0} (vs : List V) (ns : List ℕ) → length ns ≡ length vs → ((n : ℕ) → In n ns → n ≤ 0) → map (λ v. 0) vs ≡ ns
all_zero [] [] same none = refl
all_zero [] (n ∷ ns) same none = absurd (omega arith)
all_zero (v ∷ vs) [] same none = absurd (omega arith)
all_zero (v ∷ vs) (n ∷ ns) same none = let most = none n (inl refl) in let here : 0 ≡ n = omega arith in ap₂ (λ m ms. m ∷ ms) here (all_zero vs ns (omega arith) (λ k i. none k (inr i)))

-- ---- records whose parts are the same

same_names : (n1 n2 s1 s2 q1 q2 v1 v2 t1 t2 : List (List ℕ)) → n1 ≡ n2 → s1 ≡ s2 → q1 ≡ q2 → v1 ≡ v2 → t1 ≡ t2
    → let made : Names = record { nodes = n1; sections = s1; signals = q1; vehicles = v1; trains = t1 } in made ≡ record { nodes = n2; sections = s2; signals = q2; vehicles = v2; trains = t2 }
same_names n1 n2 s1 s2 q1 q2 v1 v2 t1 t2 n s q v t = rw (n, s, q, v, t) refl

same_edge : (name : List ℕ) (f1 f2 t1 t2 : End) (l1 l2 s1 s2 z1 z2 : ℕ) → f1 ≡ f2 → t1 ≡ t2 → l1 ≡ l2 → s1 ≡ s2 → z1 ≡ z2
    → let made : Edge = record { name = name; from = f1; to = t1; length_mm = l1; speed_mm_s = s1; section = record { 0 = z1 } } in made ≡ record { name = name; from = f2; to = t2; length_mm = l2; speed_mm_s = s2; section = record { 0 = z2 } }
same_edge name f1 f2 t1 t2 l1 l2 s1 s2 z1 z2 f t l s z = rw (f, t, l, s, z) refl

same_vehicle : (name : List ℕ) (l1 l2 a1 a2 b1 b2 s1 s2 : ℕ) → l1 ≡ l2 → a1 ≡ a2 → b1 ≡ b2 → s1 ≡ s2
    → let made : Vehicle = record { name = name; length_mm = l1; accel_mm_s2 = a1; brake_mm_s2 = b1; speed_mm_s = s1 } in made ≡ record { name = name; length_mm = l2; accel_mm_s2 = a2; brake_mm_s2 = b2; speed_mm_s = s2 }
same_vehicle name l1 l2 a1 a2 b1 b2 s1 s2 l a b s = rw (l, a, b, s) refl

same_train : (name : List ℕ) (v1 v2 : ℕ) (s1 s2 : List (List NodeNo)) (w1 w2 : List ℕ) → v1 ≡ v2 → s1 ≡ s2 → w1 ≡ w2
    → let made : Train = record { name = name; vehicle = record { 0 = v1 }; visits = s1; dwell_ms = w1 } in made ≡ record { name = name; vehicle = record { 0 = v2 }; visits = s2; dwell_ms = w2 }
same_train name v1 v2 s1 s2 w1 w2 v s w = rw (v, s, w) refl

same_order : (f1 f2 v1 v2 t1 t2 w1 w2 : ℕ) → f1 ≡ f2 → v1 ≡ v2 → t1 ≡ t2 → w1 ≡ w2
    → let made : Order = record { first_train = record { 0 = f1 }; first_visit = v1; then_train = record { 0 = t1 }; then_visit = w1 } in made ≡ record { first_train = record { 0 = f2 }; first_visit = v2; then_train = record { 0 = t2 }; then_visit = w2 }
same_order f1 f2 v1 v2 t1 t2 w1 w2 f v t w = rw (f, v, t, w) refl

same_within : (f1 f2 v1 v2 t1 t2 w1 w2 m1 m2 : ℕ) → f1 ≡ f2 → v1 ≡ v2 → t1 ≡ t2 → w1 ≡ w2 → m1 ≡ m2
    → let made : Within = record { from_train = record { 0 = f1 }; from_visit = v1; to_train = record { 0 = t1 }; to_visit = w1; max_ms = m1 } in made ≡ record { from_train = record { 0 = f2 }; from_visit = v2; to_train = record { 0 = t2 }; to_visit = w2; max_ms = m2 }
same_within f1 f2 v1 v2 t1 t2 w1 w2 m1 m2 f v t w m = rw (f, v, t, w, m) refl

same_overlap : (s1 s2 : ℕ) (z1 z2 : List SectionNo) (h1 h2 : ℕ) → s1 ≡ s2 → z1 ≡ z2 → h1 ≡ h2
    → let made : Overlap = record { signal = record { 0 = s1 }; sections = z1; hold_ms = h1 } in made ≡ record { signal = record { 0 = s2 }; sections = z2; hold_ms = h2 }
same_overlap s1 s2 z1 z2 h1 h2 s z h = rw (s, z, h) refl

same_station : (sections : List (List ℕ)) (a1 a2 b1 b2 c1 c2 : ℕ) (n1 n2 : List Node) (e1 e2 : List Edge) (s1 s2 : List Signal) (v1 v2 : List Vehicle) (t1 t2 : List Train) (o1 o2 : List Order) (w1 w2 : List Within) (l1 l2 : List Overlap)
    → a1 ≡ a2 → b1 ≡ b2 → c1 ≡ c2 → n1 ≡ n2 → e1 ≡ e2 → s1 ≡ s2 → v1 ≡ v2 → t1 ≡ t2 → o1 ≡ o2 → w1 ≡ w2 → l1 ≡ l2
    → let made : Station = record { version = a1; tick_ms = b1; horizon_ms = c1; nodes = n1; edges = e1; sections = sections; signals = s1; vehicles = v1; trains = t1; orders = o1; withins = w1; overlaps = l1 } in made ≡ record { version = a2; tick_ms = b2; horizon_ms = c2; nodes = n2; edges = e2; sections = sections; signals = s2; vehicles = v2; trains = t2; orders = o2; withins = w2; overlaps = l2 }
same_station sections a1 a2 b1 b2 c1 c2 n1 n2 e1 e2 s1 s2 v1 v2 t1 t2 o1 o2 w1 w2 l1 l2 a b c n e s v t o w l = rw (a, b, c, n, e, s, v, t, o, w, l) refl

module _ (d : Station) (admitted : is_admitted d ≡ true) where
  abbrev pub own_names : Names
  own_names = record { nodes = node_names d; sections = d.sections; signals = signal_names d; vehicles = vehicle_names d; trains = train_names d }

  -- ---- numbers of names

  pub node_number : (n : NodeNo) → IsNode d n → number_in (node_names d) (node_named d n) ≡ n.0
  node_number n is = number_of_entry (λ (n : Node). n.name) (record { name = []; boundary = false }) d.nodes refl n.0 is.0 is.1 (are_distinct (node_names d) (named d admitted).0)

  section_number : (z : SectionNo) → Ranges 1 (length d.sections) z.0 → number_in d.sections (section_named d z) ≡ z.0
  section_number z is = number_of d.sections z.0 (are_distinct d.sections (named d admitted).2) is.0 is.1

  pub signal_number : (s : SignalNo) → IsSignal d s → number_in (signal_names d) (signal_named d s) ≡ s.0
  signal_number s is = number_of_entry (λ (s : Signal). s.name) (record { name = []; node = record { 0 = 0 }; toward = A }) d.signals refl s.0 is.0 is.1 (are_distinct (signal_names d) (named d admitted).3)

  vehicle_number : (v : VehicleNo) → IsVehicle d v → number_in (vehicle_names d) (vehicle_named d v) ≡ v.0
  vehicle_number v is = number_of_entry (λ (v : Vehicle). v.name) (record { name = []; length_mm = 0; accel_mm_s2 = 0; brake_mm_s2 = 0; speed_mm_s = 0 }) d.vehicles refl v.0 is.0 is.1 (are_distinct (vehicle_names d) (named d admitted).4)

  train_number : (t : TrainNo) → IsTrain d t → number_in (train_names d) (train_named d t) ≡ t.0
  train_number t is = number_of_entry (λ (t : Train). t.name) no_train d.trains refl t.0 is.0 is.1 (are_distinct (train_names d) (named d admitted).5)

  -- ---- the names of the sheet

  in_section : (e : Edge) → In e d.edges → Ranges 1 (length d.sections) e.section.0
  in_section e m = ranged 1 (length d.sections) e.section.0 (edge_parts d e (good_edge d admitted e m)).6

  sections_are : each_once (map (λ (e : ParsedEdge). e.section) (map (parsed_edge d) d.edges)) ≡ d.sections
  sections_are = ap each_once (map-map (λ (e : ParsedEdge). e.section) (parsed_edge d) d.edges) ∙ once d.sections (are_distinct d.sections (named d admitted).2) d.edges in_section (sections_numbered d admitted)

  pub names_are : names_of (sheet d) ≡ own_names
  names_are =
      same_names (map (λ (n : ParsedNode). n.name) (map (parsed_node d) d.nodes)) (node_names d)
      (each_once (map (λ (e : ParsedEdge). e.section) (map (parsed_edge d) d.edges))) d.sections
      (map (λ (s : ParsedSignal). s.name) (map (parsed_signal d) d.signals)) (signal_names d)
      (map (λ (v : ParsedVehicle). v.name) (map (parsed_vehicle d) d.vehicles)) (vehicle_names d)
      (map (λ (t : ParsedTrain). t.name) (map (parsed_train d) d.trains)) (train_names d)
      (map-map (λ (n : ParsedNode). n.name) (parsed_node d) d.nodes) sections_are (map-map (λ (s : ParsedSignal). s.name) (parsed_signal d) d.signals)
      (map-map (λ (v : ParsedVehicle). v.name) (parsed_vehicle d) d.vehicles) (map-map (λ (t : ParsedTrain). t.name) (parsed_train d) d.trains)

  -- ---- entries

  end_back : (end : End) → IsNode d end.node → end_in own_names (node_named d end.node) (parsed_side end.side) ≡ end
  end_back end is = ap₂ (λ n side. record { node = record { 0 = n }; side = side }) (node_number end.node is) (side_back end.side)

  edge_back : (e : Edge) → In e d.edges → edge_in own_names (parsed_edge d e) ≡ e
  edge_back e m =
      let f = edge_parts d e (good_edge d admitted e m) in
      let long = ranged 1 10000000 e.length_mm f.3 in
      let fast = ranged 1 100000 e.speed_mm_s f.4 in
      same_edge e.name
      (end_in own_names (node_named d e.from.node) (parsed_side e.from.side)) e.from
      (end_in own_names (node_named d e.to.node) (parsed_side e.to.side)) e.to
      (number_32 (pos e.length_mm)) e.length_mm (number_32 (pos e.speed_mm_s)) e.speed_mm_s
      (number_in d.sections (section_named d e.section)) e.section.0
      (end_back e.from (ranged 1 (length d.nodes) e.from.node.0 f.0)) (end_back e.to (ranged 1 (length d.nodes) e.to.node.0 f.1))
      (small e.length_mm 10000000 long.1 (omega arith)) (small e.speed_mm_s 100000 fast.1 (omega arith))
      (section_number e.section (ranged 1 (length d.sections) e.section.0 f.6))

  signal_back : (s : Signal) → In s d.signals → signal_in own_names (parsed_signal d s) ≡ s
  signal_back s m =
      let f = signal_parts d s (good_signal d admitted s m) in
      ap₂ (λ n side. record { name = s.name; node = record { 0 = n }; toward = side }) (node_number s.node (ranged 1 (length d.nodes) s.node.0 f.0)) (side_back s.toward)

  vehicle_back : (v : Vehicle) → In v d.vehicles → vehicle_in own_names (parsed_vehicle d v) ≡ v
  vehicle_back v m =
      let f = vehicle_parts d v (good_vehicle d admitted v m) in
      let long = ranged 1 2000000 v.length_mm f.0 in
      let quick = ranged 1 100000 v.accel_mm_s2 f.1 in
      let slow = ranged 1 100000 v.brake_mm_s2 f.2 in
      let fast = ranged 1 100000 v.speed_mm_s f.3 in
      same_vehicle v.name
      (number_32 (pos v.length_mm)) v.length_mm (number_32 (pos v.accel_mm_s2)) v.accel_mm_s2 (number_32 (pos v.brake_mm_s2)) v.brake_mm_s2 (number_32 (pos v.speed_mm_s)) v.speed_mm_s
      (small v.length_mm 2000000 long.1 (omega arith)) (small v.accel_mm_s2 100000 quick.1 (omega arith)) (small v.brake_mm_s2 100000 slow.1 (omega arith)) (small v.speed_mm_s 100000 fast.1 (omega arith))

  set_back : (set : List NodeNo) → is_good_set d set ≡ true → nodes_in (node_names d) (map (node_named d) set) ≡ set
  set_back set good =
      let f = set_parts d set good in
      made_back (node_named d) (λ name. record { 0 = number_in (node_names d) name }) set
      (λ n m. ap (λ k. record { 0 = k }) (node_number n (ranged 1 (length d.nodes) n.0 (list_all_at (is_node d) set n f.1 m))))

  dwells_back : (t : Train) → In t d.trains → (b : Bool) → nat_le 3 d.version ≡ b → dwells_in (map (map (node_named d)) t.visits) (parsed_dwells b t.dwell_ms) ≡ t.dwell_ms
  dwells_back t m true e = made_back (λ n. pos n) number_32 t.dwell_ms (λ ms i. small ms 3600000 (dwell_most d admitted t m ms i) (omega arith))
  dwells_back t m false e =
      let none : longest_dwell d ≡ 0 = rw e refl in
      all_zero (map (map (node_named d)) t.visits) t.dwell_ms (dwell_count d admitted t m ∙ sym (length-map (map (node_named d)) t.visits)) (λ ms i. let most = dwell_within d admitted t m ms i in omega arith)

  train_back : (t : Train) → In t d.trains → train_in own_names (parsed_train d t) ≡ t
  train_back t m =
      let f = train_parts d t (good_train d admitted t m) in
      same_train t.name
      (number_in (vehicle_names d) (vehicle_named d t.vehicle)) t.vehicle.0 (map (nodes_in (node_names d)) (map (map (node_named d)) t.visits)) t.visits
      (dwells_in (map (map (node_named d)) t.visits) (parsed_dwells (nat_le 3 d.version) t.dwell_ms)) t.dwell_ms
      (vehicle_number t.vehicle (ranged 1 (length d.vehicles) t.vehicle.0 f.0))
      (made_back (map (node_named d)) (nodes_in (node_names d)) t.visits (λ set i. set_back set (list_all_at (is_good_set d) t.visits set f.2 i)))
      (dwells_back t m (nat_le 3 d.version) refl)

  -- a train has 16 visits at most
  pub visit_most : (t : TrainNo) (j : ℕ) → is_visit d t j ≡ true → j ≤ 16
  visit_most t j h =
      let f = visit_parts d t j h in
      let there = ranged 1 (length d.trains) t.0 f.0 in
      let is = ranged 1 (length (train_of d t).visits) j f.1 in
      let g = train_parts d (train_of d t) (good_train d admitted (train_of d t) (in_entry no_train d.trains t.0 there.0 there.1)) in
      let count = ranged 1 16 (length (train_of d t).visits) g.1 in
      let most = count.1 in
      let last = is.1 in
      omega arith

  visit_small : (t : TrainNo) (j : ℕ) → is_visit d t j ≡ true → number_32 (pos j) ≡ j
  visit_small t j h = small j 16 (visit_most t j h) (omega arith)

  visit_train : (t : TrainNo) (j : ℕ) → is_visit d t j ≡ true → number_in (train_names d) (train_named d t) ≡ t.0
  visit_train t j h =
      let f = visit_parts d t j h in
      train_number t (ranged 1 (length d.trains) t.0 f.0)

  order_back : (o : Order) → In o d.orders → order_in own_names (parsed_order d o) ≡ o
  order_back o m =
      let f = order_parts d o (good_order d admitted o m) in
      same_order (number_in (train_names d) (train_named d o.first_train)) o.first_train.0 (number_32 (pos o.first_visit)) o.first_visit (number_in (train_names d) (train_named d o.then_train)) o.then_train.0 (number_32 (pos o.then_visit)) o.then_visit
      (visit_train o.first_train o.first_visit f.0) (visit_small o.first_train o.first_visit f.0) (visit_train o.then_train o.then_visit f.1) (visit_small o.then_train o.then_visit f.1)

  within_back : (w : Within) → In w d.withins → within_in own_names (parsed_within d w) ≡ w
  within_back w m =
      let f = within_parts d w (good_within d admitted w m) in
      same_within (number_in (train_names d) (train_named d w.from_train)) w.from_train.0 (number_32 (pos w.from_visit)) w.from_visit (number_in (train_names d) (train_named d w.to_train)) w.to_train.0 (number_32 (pos w.to_visit)) w.to_visit (number_32 (pos w.max_ms)) w.max_ms
      (visit_train w.from_train w.from_visit f.0) (visit_small w.from_train w.from_visit f.0) (visit_train w.to_train w.to_visit f.1) (visit_small w.to_train w.to_visit f.1) (small w.max_ms 86400000 (leb-true w.max_ms 86400000 f.2) (omega arith))

  sections_back : (sections : List SectionNo) → list_all (is_section d) sections ≡ true → sections_in d.sections (map (section_named d) sections) ≡ sections
  sections_back sections there =
      made_back (section_named d) (λ name. record { 0 = number_in d.sections name }) sections
      (λ z m. ap (λ k. record { 0 = k }) (section_number z (ranged 1 (length d.sections) z.0 (list_all_at (is_section d) sections z there m))))

  overlap_back : (o : Overlap) → In o d.overlaps → overlap_in own_names (parsed_overlap d o) ≡ o
  overlap_back o m =
      let f = overlap_parts d o (good_overlap d admitted o m) in
      same_overlap (number_in (signal_names d) (signal_named d o.signal)) o.signal.0 (sections_in d.sections (map (section_named d) o.sections)) o.sections (number_32 (pos o.hold_ms)) o.hold_ms
      (signal_number o.signal (ranged 1 (length d.signals) o.signal.0 f.0)) (sections_back o.sections f.2) (small o.hold_ms 600000 (leb-true o.hold_ms 600000 f.3) (omega arith))

  -- ---- the station

  version_small : number_32 (pos d.version) ≡ d.version
  version_small =
      let range = ranged 1 4 d.version (timed d admitted).0 in
      small d.version 4 range.1 (omega arith)

  tick_small : number_32 (pos d.tick_ms) ≡ d.tick_ms
  tick_small =
      let range = ranged 100 1000 d.tick_ms (timed d admitted).1 in
      small d.tick_ms 1000 range.1 (omega arith)

  -- a horizon has 86,400 ticks at most, of a second each
  pub horizon_most : d.horizon_ms ≤ 86401000
  horizon_most =
      let range = ranged 100 1000 d.tick_ms (timed d admitted).1 in
      let least = range.0 in
      let ticks = ranged 1 86400 (horizon d) (timed d admitted).2 in
      small_product d.horizon_ms d.tick_ms (omega arith) range.1 ticks.1

  horizon_small : number_32 (pos d.horizon_ms) ≡ d.horizon_ms
  horizon_small = small d.horizon_ms 86401000 horizon_most (omega arith)

  own_station : station_in own_names (sheet d) ≡ d
  own_station =
      same_station d.sections
      (number_32 (pos d.version)) d.version (number_32 (pos d.tick_ms)) d.tick_ms (number_32 (pos d.horizon_ms)) d.horizon_ms
      (map (node_in own_names) (map (parsed_node d) d.nodes)) d.nodes
      (map (edge_in own_names) (map (parsed_edge d) d.edges)) d.edges
      (map (signal_in own_names) (map (parsed_signal d) d.signals)) d.signals
      (map (vehicle_in own_names) (map (parsed_vehicle d) d.vehicles)) d.vehicles
      (map (train_in own_names) (map (parsed_train d) d.trains)) d.trains
      (map (order_in own_names) (map (parsed_order d) d.orders)) d.orders
      (map (within_in own_names) (map (parsed_within d) d.withins)) d.withins
      (map (overlap_in own_names) (map (parsed_overlap d) d.overlaps)) d.overlaps
      version_small tick_small horizon_small
      (made_back (parsed_node d) (node_in own_names) d.nodes (λ n m. refl))
      (made_back (parsed_edge d) (edge_in own_names) d.edges edge_back)
      (made_back (parsed_signal d) (signal_in own_names) d.signals signal_back)
      (made_back (parsed_vehicle d) (vehicle_in own_names) d.vehicles vehicle_back)
      (made_back (parsed_train d) (train_in own_names) d.trains train_back)
      (made_back (parsed_order d) (order_in own_names) d.orders order_back)
      (made_back (parsed_within d) (within_in own_names) d.withins within_back)
      (made_back (parsed_overlap d) (overlap_in own_names) d.overlaps overlap_back)

  pub station_is : station_of (sheet d) ≡ d
  station_is = ap (λ names. station_in names (sheet d)) names_are ∙ own_station
