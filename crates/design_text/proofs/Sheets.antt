-- The sheet of a design's document: the design's entries, with names in the place of numbers.
use Rattle.std.proofs.Common.{◌≡◌, ℕ, ℤ, pos, nat_le, Bool, true, false, Option, None, ◌∙◌, List, [], ◌∷◌, map, Some, refl, ap₂, ap}
use Rattle.toml.specs.Data.{Data, string, integer, Members}
use Rattle.toml.specs.View.{items_of}
use Rattle.design_table.specs.declared.sheet.Side as table
use Rattle.design_table.specs.declared.sheet.Side.TheVariants as parsed
use Rattle.design_table.specs.declared.place.EntryKind.TheVariants as kinds
use Rattle.design_table.specs.declared.key.Key.{Key}
use Rattle.design_table.specs.declared.key.Key.TheVariants as keys
use Rattle.design_table.specs.Keys.{key_text}
use Rattle.design_table.specs.Forms.{found, list_of_items, items_of as items_in, side_of, whole_of, name_value, visit_of}
use Rattle.design_table.specs.Sheet.{members_of, value_of, top_value, entries_of, sheet_of}
use Rattle.design_table.specs.Parsed as parse
use Rattle.design_table.specs.Parsed.{ParsedNode, ParsedEdge, ParsedSignal, ParsedVehicle, ParsedTrain, ParsedOrder, ParsedWithin, ParsedOverlap, ParsedSheet}
use Rattle.rail_base.specs.Numbering.{entry}
use Rattle.rail_base.specs.Stations.{node_of, signal_of, train_of, vehicle_at}
use Rattle.rail_base.specs.declared.station.Station.{Station}
use Rattle.rail_base.specs.declared.station.Node.{Node}
use Rattle.rail_base.specs.declared.station.Edge.{Edge}
use Rattle.rail_base.specs.declared.station.Signal.{Signal}
use Rattle.rail_base.specs.declared.station.Vehicle.{Vehicle}
use Rattle.rail_base.specs.declared.station.Train.{Train}
use Rattle.rail_base.specs.declared.station.Order.{Order}
use Rattle.rail_base.specs.declared.station.Within.{Within}
use Rattle.rail_base.specs.declared.station.Overlap.{Overlap}
use Rattle.rail_base.specs.declared.station.NodeNo.{NodeNo}
use Rattle.rail_base.specs.declared.station.SectionNo.{SectionNo}
use Rattle.rail_base.specs.declared.station.SignalNo.{SignalNo}
use Rattle.rail_base.specs.declared.station.TrainNo.{TrainNo}
use Rattle.rail_base.specs.declared.station.VehicleNo.{VehicleNo}
use Rattle.rail_base.specs.declared.station.Side.{Side}
use Rattle.rail_base.specs.declared.station.Side.TheVariants.{A, B}
use Rattle.design_text.specs.Texts.{side_name}
use Rattle.design_text.proofs.Parts.{or_else, looked_up, found_in}
use Rattle.design_text.proofs.Documents.{array_of, some_array, node_value, section_value, number_value, name_row, node_more, table_of, node_table, edge_table, signal_table, vehicle_table, train_table, order_table, within_table, overlap_table, first_part, more_parts, document}

abbrev pub parsed_side : Side → table.Side
parsed_side A = parsed.A
parsed_side B = parsed.B

-- from version 3 on
abbrev pub parsed_dwells : Bool → List ℕ → Option (List ℤ)
parsed_dwells true dwells = Some (map pos dwells)
parsed_dwells false dwells = None

module _ (d : Station) where
  -- ---- names by number

  abbrev pub node_named : NodeNo → List ℕ
  node_named n = (node_of d n).name

  abbrev pub section_named : SectionNo → List ℕ
  section_named z = entry [] d.sections z.0

  abbrev pub signal_named : SignalNo → List ℕ
  signal_named s = (signal_of d s).name

  abbrev pub vehicle_named : VehicleNo → List ℕ
  vehicle_named v = (vehicle_at d v).name

  abbrev pub train_named : TrainNo → List ℕ
  train_named t = (train_of d t).name

  -- ---- entries

  abbrev pub parsed_node : Node → ParsedNode
  parsed_node n = record { name = n.name; boundary = n.boundary }

  abbrev pub parsed_edge : Edge → ParsedEdge
  parsed_edge e = record {
    name = e.name;
    from = node_named e.from.node;
    from_side = parsed_side e.from.side;
    to = node_named e.to.node;
    to_side = parsed_side e.to.side;
    length_mm = pos e.length_mm;
    speed_mm_s = pos e.speed_mm_s;
    section = section_named e.section;
  }

  abbrev pub parsed_signal : Signal → ParsedSignal
  parsed_signal s = record { name = s.name; node = node_named s.node; toward = parsed_side s.toward }

  abbrev pub parsed_vehicle : Vehicle → ParsedVehicle
  parsed_vehicle v = record {
    name = v.name;
    length_mm = pos v.length_mm;
    accel_mm_s2 = pos v.accel_mm_s2;
    brake_mm_s2 = pos v.brake_mm_s2;
    speed_mm_s = pos v.speed_mm_s;
  }

  abbrev pub parsed_train : Train → ParsedTrain
  parsed_train t = record { name = t.name; vehicle = vehicle_named t.vehicle; visits = map (map node_named) t.visits; dwell_ms = parsed_dwells (nat_le 3 d.version) t.dwell_ms }

  abbrev pub parsed_order : Order → ParsedOrder
  parsed_order o = record {
    first_train = train_named o.first_train;
    first_visit = pos o.first_visit;
    then_train = train_named o.then_train;
    then_visit = pos o.then_visit;
  }

  abbrev pub parsed_within : Within → ParsedWithin
  parsed_within w = record {
    from_train = train_named w.from_train;
    from_visit = pos w.from_visit;
    to_train = train_named w.to_train;
    to_visit = pos w.to_visit;
    max_ms = pos w.max_ms;
  }

  abbrev pub parsed_overlap : Overlap → ParsedOverlap
  parsed_overlap o = record { signal = signal_named o.signal; sections = map section_named o.sections; hold_ms = pos o.hold_ms }

  -- ---- the sheet

  abbrev pub sheet : ParsedSheet
  sheet = record {
    version = pos d.version;
    tick_ms = pos d.tick_ms;
    horizon_ms = pos d.horizon_ms;
    nodes = map parsed_node d.nodes;
    edges = map parsed_edge d.edges;
    signals = map parsed_signal d.signals;
    vehicles = map parsed_vehicle d.vehicles;
    trains = map parsed_train d.trains;
    orders = map parsed_order d.orders;
    withins = map parsed_within d.withins;
    overlaps = map parsed_overlap d.overlaps;
  }

-- ---- what is read of the document

pub items_listed : (values : List Data) → list_of_items (items_of values) ≡ values
items_listed [] = refl
items_listed (v ∷ vs) = ap (λ ws. v ∷ ws) (items_listed vs)

items_are : {X A : Type 0} (read : Data → A) (holds : X → Data) (own : X → A) (xs : List X) → ((x : X) → read (holds x) ≡ own x) → map read (list_of_items (items_of (map holds xs))) ≡ map own xs
items_are read holds own [] same = refl
items_are read holds own (x ∷ xs) same = ap₂ (λ y ys. y ∷ ys) (same x) (items_are read holds own xs same)

-- the entries of an array, which is there if it has some
array_read : {X A : Type 0} (read : Members → A) (holds : X → Data) (own : X → A) (xs : List X) → ((x : X) → read (members_of (holds x)) ≡ own x) → map (λ entry. read (members_of entry)) (items_in (some_array holds xs)) ≡ map own xs
array_read read holds own [] same = refl
array_read read holds own (x ∷ xs) same = items_are (λ entry. read (members_of entry)) holds own (x ∷ xs) same

side_read : (s : Side) → side_of (Some (string (side_name s))) ≡ parsed_side s
side_read A = refl
side_read B = refl

-- what a table of each kind spells in a version
abbrev read_node : ℕ → Members → ParsedNode
read_node version ms = parse.node_of (value_of version kinds.Node ms)

abbrev read_edge : ℕ → Members → ParsedEdge
read_edge version ms = parse.edge_of (value_of version kinds.Edge ms)

abbrev read_signal : ℕ → Members → ParsedSignal
read_signal version ms = parse.signal_of (value_of version kinds.Signal ms)

abbrev read_vehicle : ℕ → Members → ParsedVehicle
read_vehicle version ms = parse.vehicle_of (value_of version kinds.Vehicle ms)

abbrev read_train : ℕ → Members → ParsedTrain
read_train version ms = parse.train_of (value_of version kinds.Train ms)

abbrev read_order : ℕ → Members → ParsedOrder
read_order version ms = parse.order_of (value_of version kinds.Order ms)

abbrev read_within : ℕ → Members → ParsedWithin
read_within version ms = parse.within_of (value_of version kinds.Within ms)

abbrev read_overlap : ℕ → Members → ParsedOverlap
read_overlap version ms = parse.overlap_of (value_of version kinds.Overlap ms)

-- the sheet of a table, by what its keys hold
sheet_from : (ms : Members) (a b c : ℕ) (nodes edges signals vehicles trains orders withins : Option Data)
    → found keys.Version ms ≡ Some (integer (pos a)) → found keys.TickMs ms ≡ Some (integer (pos b)) → found keys.HorizonMs ms ≡ Some (integer (pos c))
    → found keys.Node ms ≡ nodes → found keys.Edge ms ≡ edges → found keys.Signal ms ≡ signals → found keys.Vehicle ms ≡ vehicles → found keys.Train ms ≡ trains → found keys.Order ms ≡ orders → found keys.Within ms ≡ withins → nat_le a 4 ≡ true
    → sheet_of ms ≡ record {
      version = pos a;
      tick_ms = pos b;
      horizon_ms = pos c;
      nodes = map (λ entry. read_node a (members_of entry)) (items_in nodes);
      edges = map (λ entry. read_edge a (members_of entry)) (items_in edges);
      signals = map (λ entry. read_signal a (members_of entry)) (items_in signals);
      vehicles = map (λ entry. read_vehicle a (members_of entry)) (items_in vehicles);
      trains = map (λ entry. read_train a (members_of entry)) (items_in trains);
      orders = map (λ entry. read_order a (members_of entry)) (items_in orders);
      withins = map (λ entry. read_within a (members_of entry)) (items_in withins);
      overlaps = map (λ entry. read_overlap a (members_of entry)) (items_in (top_value a ms keys.Overlap));
    }
unfolding sheet_of entries_of
sheet_from ms a b c nodes edges signals vehicles trains orders withins e1 e2 e3 e4 e5 e6 e7 e8 e9 e10 known = rw (e1, e2, e3, e4, e5, e6, e7, e8, e9, e10, known) refl

or_none : (o : Option Data) → or_else o None ≡ o
or_none None = refl
or_none (Some v) = refl

module _ (d : Station) where
  abbrev version : ℕ
  version = d.version

  visits_read : (visits : List (List NodeNo)) → map visit_of (list_of_items (items_of (map (array_of (node_value d)) visits))) ≡ map (map (node_named d)) visits
  visits_read visits = items_are visit_of (array_of (node_value d)) (map (node_named d)) visits (λ set. items_are name_value (node_value d) (node_named d) set (λ n. refl))

  node_read : (n : Node) → read_node version (members_of (node_table n)) ≡ parsed_node d n
  node_read n = by_boundary n.boundary
    where
      by_boundary : (b : Bool) → read_node version (members_of (table_of (name_row keys.Name n.name ∷ node_more b))) ≡ record { name = n.name; boundary = b }
      by_boundary true = refl
      by_boundary false = refl

  vehicle_read : (v : Vehicle) → read_vehicle version (members_of (vehicle_table v)) ≡ parsed_vehicle d v
  vehicle_read v = refl

  edge_read : (e : Edge) → read_edge version (members_of (edge_table d e)) ≡ parsed_edge d e
  edge_read e = ap₂ between (side_read e.from.side) (side_read e.to.side)
    where
      between : table.Side → table.Side → ParsedEdge
      between from to = record {
        name = e.name;
        from = node_named d e.from.node;
        from_side = from;
        to = node_named d e.to.node;
        to_side = to;
        length_mm = pos e.length_mm;
        speed_mm_s = pos e.speed_mm_s;
        section = section_named d e.section;
      }

  signal_read : (s : Signal) → read_signal version (members_of (signal_table d s)) ≡ parsed_signal d s
  signal_read s = ap (λ toward. record { name = s.name; node = node_named d s.node; toward = toward }) (side_read s.toward)

  train_read : (t : Train) → read_train version (members_of (train_table d t)) ≡ parsed_train d t
  train_read t = by_version (nat_le 3 version) refl
    where
      dwells_read : map (λ d. whole_of (Some d)) (list_of_items (items_of (map number_value t.dwell_ms))) ≡ map pos t.dwell_ms
      dwells_read = items_are (λ d. whole_of (Some d)) number_value (λ n. pos n) t.dwell_ms (λ n. refl)

      -- with the key, and without it
      made_train : List (List (List ℕ)) → Option (List ℤ) → ParsedTrain
      made_train visits dwells = record { name = t.name; vehicle = vehicle_named d t.vehicle; visits = visits; dwell_ms = dwells }

      by_version : (b : Bool) → nat_le 3 version ≡ b → read_train version (members_of (train_table d t)) ≡ parsed_train d t
      by_version true e = rw e (ap₂ (λ visits dwells. made_train visits (Some dwells)) (visits_read t.visits) dwells_read)
      by_version false e = rw e (ap (λ visits. made_train visits None) (visits_read t.visits))

  order_read : (o : Order) → read_order version (members_of (order_table d o)) ≡ parsed_order d o
  order_read o = refl

  within_read : (w : Within) → read_within version (members_of (within_table d w)) ≡ parsed_within d w
  within_read w = refl

  overlap_read : nat_le 4 version ≡ true → (o : Overlap) → read_overlap version (members_of (overlap_table d o)) ≡ parsed_overlap d o
  overlap_read e o = rw e (ap made_overlap (items_are name_value (section_value d) (section_named d) o.sections (λ z. refl)))
    where
      made_overlap : List (List ℕ) → ParsedOverlap
      made_overlap sections = record { signal = signal_named d o.signal; sections = sections; hold_ms = pos o.hold_ms }

  -- ---- what the keys of the document hold

  looked : (key : Key) → found key (document d) ≡ looked_up (key_text key) (first_part d ∷ more_parts d) None
  unfolding document
  looked key = found_in (key_text key) (first_part d ∷ more_parts d)

  pub version_found : found keys.Version (document d) ≡ Some (integer (pos d.version))
  version_found = looked keys.Version

  pub tick_found : found keys.TickMs (document d) ≡ Some (integer (pos d.tick_ms))
  tick_found = looked keys.TickMs

  pub horizon_found : found keys.HorizonMs (document d) ≡ Some (integer (pos d.horizon_ms))
  horizon_found = looked keys.HorizonMs

  pub nodes_found : found keys.Node (document d) ≡ some_array node_table d.nodes
  nodes_found = looked keys.Node ∙ or_none (some_array node_table d.nodes)

  pub edges_found : found keys.Edge (document d) ≡ some_array (edge_table d) d.edges
  edges_found = looked keys.Edge ∙ or_none (some_array (edge_table d) d.edges)

  pub signals_found : found keys.Signal (document d) ≡ some_array (signal_table d) d.signals
  signals_found = looked keys.Signal ∙ or_none (some_array (signal_table d) d.signals)

  pub vehicles_found : found keys.Vehicle (document d) ≡ some_array vehicle_table d.vehicles
  vehicles_found = looked keys.Vehicle ∙ or_none (some_array vehicle_table d.vehicles)

  pub trains_found : found keys.Train (document d) ≡ some_array (train_table d) d.trains
  trains_found = looked keys.Train ∙ or_none (some_array (train_table d) d.trains)

  pub orders_found : found keys.Order (document d) ≡ some_array (order_table d) d.orders
  orders_found = looked keys.Order ∙ or_none (some_array (order_table d) d.orders)

  pub withins_found : found keys.Within (document d) ≡ some_array (within_table d) d.withins
  withins_found = looked keys.Within ∙ or_none (some_array (within_table d) d.withins)

  overlaps_found : found keys.Overlap (document d) ≡ some_array (overlap_table d) d.overlaps
  overlaps_found = looked keys.Overlap ∙ or_none (some_array (overlap_table d) d.overlaps)

  -- overlaps, of which there are none before version 4
  module _ (old : nat_le 4 d.version ≡ false → d.overlaps ≡ []) where
    pub overlaps_top : top_value version (document d) keys.Overlap ≡ some_array (overlap_table d) d.overlaps
    overlaps_top = go (nat_le 4 version) refl
      where
        go : (b : Bool) → nat_le 4 version ≡ b → top_value version (document d) keys.Overlap ≡ some_array (overlap_table d) d.overlaps
        go true e = rw e overlaps_found
        go false e = rw (e, old e) refl

    overlaps_read : map (λ entry. read_overlap version (members_of entry)) (items_in (top_value version (document d) keys.Overlap)) ≡ map (parsed_overlap d) d.overlaps
    overlaps_read = ap (λ o. map (λ entry. read_overlap version (members_of entry)) (items_in o)) overlaps_top ∙ go (nat_le 4 version) refl
      where
        go : (b : Bool) → nat_le 4 version ≡ b → map (λ entry. read_overlap version (members_of entry)) (items_in (some_array (overlap_table d) d.overlaps)) ≡ map (parsed_overlap d) d.overlaps
        go true e = array_read (read_overlap version) (overlap_table d) (parsed_overlap d) d.overlaps (overlap_read e)
        go false e = rw (old e) refl

  -- ---- the sheet of the document

  abbrev made : List ParsedNode → List ParsedEdge → List ParsedSignal → List ParsedVehicle → List ParsedTrain → List ParsedOrder → List ParsedWithin → List ParsedOverlap → ParsedSheet
  made nodes edges signals vehicles trains orders withins overlaps = record {
    version = pos d.version;
    tick_ms = pos d.tick_ms;
    horizon_ms = pos d.horizon_ms;
    nodes = nodes;
    edges = edges;
    signals = signals;
    vehicles = vehicles;
    trains = trains;
    orders = orders;
    withins = withins;
    overlaps = overlaps;
  }

  same_made : (n1 n2 : List ParsedNode) (e1 e2 : List ParsedEdge) (s1 s2 : List ParsedSignal) (v1 v2 : List ParsedVehicle) (t1 t2 : List ParsedTrain) (o1 o2 : List ParsedOrder) (w1 w2 : List ParsedWithin) (l1 l2 : List ParsedOverlap)
      → n1 ≡ n2 → e1 ≡ e2 → s1 ≡ s2 → v1 ≡ v2 → t1 ≡ t2 → o1 ≡ o2 → w1 ≡ w2 → l1 ≡ l2 → made n1 e1 s1 v1 t1 o1 w1 l1 ≡ made n2 e2 s2 v2 t2 o2 w2 l2
  same_made n1 n2 e1 e2 s1 s2 v1 v2 t1 t2 o1 o2 w1 w2 l1 l2 n e s v t o w l = rw (n, e, s, v, t, o, w, l) refl

  abbrev read_as : {X A : Type 0} → (Members → A) → (X → Data) → List X → List A
  read_as read holds xs = map (λ entry. read (members_of entry)) (items_in (some_array holds xs))

  pub sheet_is : nat_le d.version 4 ≡ true → (nat_le 4 d.version ≡ false → d.overlaps ≡ []) → sheet_of (document d) ≡ sheet d
  sheet_is known old =
      sheet_from (document d) d.version d.tick_ms d.horizon_ms (some_array node_table d.nodes) (some_array (edge_table d) d.edges) (some_array (signal_table d) d.signals) (some_array vehicle_table d.vehicles) (some_array (train_table d) d.trains) (some_array (order_table d) d.orders) (some_array (within_table d) d.withins)
      version_found tick_found horizon_found nodes_found edges_found signals_found vehicles_found trains_found orders_found withins_found known
      ∙ same_made
      (read_as (read_node version) node_table d.nodes) (map (parsed_node d) d.nodes)
      (read_as (read_edge version) (edge_table d) d.edges) (map (parsed_edge d) d.edges)
      (read_as (read_signal version) (signal_table d) d.signals) (map (parsed_signal d) d.signals)
      (read_as (read_vehicle version) vehicle_table d.vehicles) (map (parsed_vehicle d) d.vehicles)
      (read_as (read_train version) (train_table d) d.trains) (map (parsed_train d) d.trains)
      (read_as (read_order version) (order_table d) d.orders) (map (parsed_order d) d.orders)
      (read_as (read_within version) (within_table d) d.withins) (map (parsed_within d) d.withins)
      (map (λ entry. read_overlap version (members_of entry)) (items_in (top_value version (document d) keys.Overlap))) (map (parsed_overlap d) d.overlaps)
      (array_read (read_node version) node_table (parsed_node d) d.nodes node_read)
      (array_read (read_edge version) (edge_table d) (parsed_edge d) d.edges edge_read)
      (array_read (read_signal version) (signal_table d) (parsed_signal d) d.signals signal_read)
      (array_read (read_vehicle version) vehicle_table (parsed_vehicle d) d.vehicles vehicle_read)
      (array_read (read_train version) (train_table d) (parsed_train d) d.trains train_read)
      (array_read (read_order version) (order_table d) (parsed_order d) d.orders order_read)
      (array_read (read_within version) (within_table d) (parsed_within d) d.withins within_read)
      (overlaps_read old)
