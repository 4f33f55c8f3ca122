-- Of the designs that bytes spell, one that is admitted and whose names are not empty is the only one.
use Rattle.std.proofs.Common.{◌≡◌, ℕ, ◌<◌, false, List, [], ◌∷◌, map, length, Some, refl, sym, ap, subst, ◌∙◌}
use Rattle.toml.specs.Data.{string}
use Rattle.rail_base.specs.declared.station.Station.{Station}
use Rattle.rail_base.specs.declared.station.Node.{Node}
use Rattle.rail_base.specs.declared.station.Edge.{Edge}
use Rattle.rail_base.specs.declared.station.End.{End}
use Rattle.rail_base.specs.declared.station.Side.TheVariants.{A}
use Rattle.rail_base.specs.declared.station.Signal.{Signal}
use Rattle.rail_base.specs.declared.station.Vehicle.{Vehicle}
use Rattle.rail_base.specs.declared.station.Train.{Train}
use Rattle.rail_base.specs.declared.station.Order.{Order}
use Rattle.rail_base.specs.declared.station.Within.{Within}
use Rattle.rail_base.specs.declared.station.Overlap.{Overlap}
use Rattle.rail_base.specs.declared.station.NodeNo.{NodeNo}
use Rattle.rail_base.specs.declared.station.SectionNo.{SectionNo}
use Rattle.rail_base.specs.declared.station.SignalNo.{SignalNo}
use Rattle.rail_base.specs.declared.station.VehicleNo.{VehicleNo}
use Rattle.rail_base.specs.declared.station.TrainNo.{TrainNo}
use Rattle.rail_base.specs.Admitted.{IsAdmitted, Ranges}
use Rattle.rail_base.specs.Members.{In, Pairs}
use Rattle.rail_base.specs.Names.{node_name, section_name, signal_name, train_name}
use Rattle.rail_base.specs.Numbering.{entry}
use Rattle.rail_base.specs.Stations.{IsNode, IsSignal, IsVehicle, IsTrain, no_train, no_vehicle, vehicle_at}
use Rattle.rail_spelling.specs.Designs.{Spells, HasRows, whole, list, dwell_rows, each_once}
use Rattle.rail_spelling.proofs.Agreeing.{one_text, one_flag, one_whole, one_side, one_list, one_made, one_array, one_dwells}
use Rattle.rail_spelling.proofs.Entries.{good_edge, good_signal, good_train}
use Rattle.rail_spelling.proofs.Numbers.{Named, one_number}
use Rattle.rail_spelling.proofs.Sections.{once_differ}

-- the node that none is
abbrev pub no_node : Node
no_node = record { name = []; boundary = false }

-- the signal that none is
abbrev pub no_signal : Signal
no_signal = record { name = []; node = record { 0 = 0 }; toward = A }

-- ---- records whose parts are equal

same_node : (x y : Node) → x.name ≡ y.name → x.boundary ≡ y.boundary → x ≡ y
same_node x y name boundary = λ i. record { name = name i; boundary = boundary i }

same_end : (x y : End) → x.node ≡ y.node → x.side ≡ y.side → x ≡ y
same_end x y node side = λ i. record { node = node i; side = side i }

same_edge : (x y : Edge) → x.name ≡ y.name → x.from ≡ y.from → x.to ≡ y.to → x.length_mm ≡ y.length_mm → x.speed_mm_s ≡ y.speed_mm_s → x.section ≡ y.section → x ≡ y
same_edge x y name from to length speed section = λ i. record { name = name i; from = from i; to = to i; length_mm = length i; speed_mm_s = speed i; section = section i }

same_signal : (x y : Signal) → x.name ≡ y.name → x.node ≡ y.node → x.toward ≡ y.toward → x ≡ y
same_signal x y name node toward = λ i. record { name = name i; node = node i; toward = toward i }

same_vehicle : (x y : Vehicle) → x.name ≡ y.name → x.length_mm ≡ y.length_mm → x.accel_mm_s2 ≡ y.accel_mm_s2 → x.brake_mm_s2 ≡ y.brake_mm_s2 → x.speed_mm_s ≡ y.speed_mm_s → x ≡ y
same_vehicle x y name length accel brake speed = λ i. record { name = name i; length_mm = length i; accel_mm_s2 = accel i; brake_mm_s2 = brake i; speed_mm_s = speed i }

same_train : (x y : Train) → x.name ≡ y.name → x.vehicle ≡ y.vehicle → x.visits ≡ y.visits → x.dwell_ms ≡ y.dwell_ms → x ≡ y
same_train x y name vehicle visits dwells = λ i. record { name = name i; vehicle = vehicle i; visits = visits i; dwell_ms = dwells i }

same_order : (x y : Order) → x.first_train ≡ y.first_train → x.first_visit ≡ y.first_visit → x.then_train ≡ y.then_train → x.then_visit ≡ y.then_visit → x ≡ y
same_order x y first visit later other = λ i. record { first_train = first i; first_visit = visit i; then_train = later i; then_visit = other i }

same_within : (x y : Within) → x.from_train ≡ y.from_train → x.from_visit ≡ y.from_visit → x.to_train ≡ y.to_train → x.to_visit ≡ y.to_visit → x.max_ms ≡ y.max_ms → x ≡ y
same_within x y from visit to other most = λ i. record { from_train = from i; from_visit = visit i; to_train = to i; to_visit = other i; max_ms = most i }

same_overlap : (x y : Overlap) → x.signal ≡ y.signal → x.sections ≡ y.sections → x.hold_ms ≡ y.hold_ms → x ≡ y
same_overlap x y signal sections hold = λ i. record { signal = signal i; sections = sections i; hold_ms = hold i }

-- ---- two designs that the bytes spell

-- no name is empty
pub record IsNamed (d : Station) : Type 0 where
  pub nodes : Named (λ (n : Node). n.name) no_node refl d.nodes
  pub sections : Named (λ (name : List ℕ). name) [] refl d.sections
  pub signals : Named (λ (q : Signal). q.name) no_signal refl d.signals
  pub vehicles : Named (λ (v : Vehicle). v.name) no_vehicle refl d.vehicles
  pub trains : Named (λ (t : Train). t.name) no_train refl d.trains

module _ (bytes : List ℕ) (d e : Station) (named : IsNamed d) (good : IsAdmitted d) (a : Spells bytes d) (b : Spells bytes e) where
  same_file : a.file ≡ b.file
  same_file = let both : Some a.file ≡ Some b.file = sym a.toml ∙ b.toml in cc

  same_top : HasRows a.file (("version", whole e.version) ∷ ("tick_ms", whole e.tick_ms) ∷ ("horizon_ms", whole e.horizon_ms) ∷ [])
  same_top = subst (λ keys. HasRows keys (("version", whole e.version) ∷ ("tick_ms", whole e.tick_ms) ∷ ("horizon_ms", whole e.horizon_ms) ∷ [])) (sym same_file) b.top

  same_version : d.version ≡ e.version
  same_version = one_whole d.version e.version (sym a.top.0 ∙ same_top.0)

  -- ---- nodes

  same_nodes : d.nodes ≡ e.nodes
  same_nodes = one_array _ _ a.file b.file "node" d.nodes e.nodes same_file (λ keys x y m k p q. same_node x y (one_text x.name y.name (sym p.0 ∙ q.0)) (one_flag x.boundary y.boundary (sym p.1.0 ∙ q.1.0))) a.nodes b.nodes

  one_node : (n m : NodeNo) → IsNode d n → string (node_name d n) ≡ string (node_name e m) → n ≡ m
  one_node n m is same =
      let names : node_name d n ≡ node_name d m = one_text (node_name d n) (node_name e m) same ∙ ap (λ nodes. (entry no_node nodes m.0).name) (sym same_nodes) in
      let number : n.0 ≡ m.0 = one_number (λ (n : Node). n.name) no_node refl d.nodes n.0 m.0 good.node_names named.nodes is.0 is.1 names in
      λ i. record { 0 = number i }

  one_set : (set other : List NodeNo) → ((n : NodeNo) → In n set → IsNode d n) → list (λ n. string (node_name d n)) set ≡ list (λ n. string (node_name e n)) other → set ≡ other
  one_set set other there same = one_list _ _ set other (λ n m k is. one_node n m (there n k) is) same

  -- ---- edges and sections

  same_sections : d.sections ≡ e.sections
  same_sections =
      let names = one_made _ _ a.file b.file "edge" d.edges e.edges same_file (λ (x : Edge). section_name d x.section) (λ (y : Edge). section_name e y.section)
      (λ keys x y m k p q. one_text (section_name d x.section) (section_name e y.section) (sym p.1.1.1.1.1.1.1.0 ∙ q.1.1.1.1.1.1.1.0)) a.edges b.edges in
      a.sections ∙ ap each_once names ∙ sym b.sections

  one_section : (n m : SectionNo) → Ranges 1 (length d.sections) n.0 → string (section_name d n) ≡ string (section_name e m) → n ≡ m
  one_section n m is same =
      let names : section_name d n ≡ section_name d m = one_text (section_name d n) (section_name e m) same ∙ ap (λ names. entry [] names m.0) (sym same_sections) in
      let differ = subst (λ names. Pairs (λ (a b : List ℕ). a ≡ b → ⊥) names) (sym a.sections) (once_differ (map (λ (e : Edge). section_name d e.section) d.edges)) in
      let number : n.0 ≡ m.0 = one_number (λ (name : List ℕ). name) [] refl d.sections n.0 m.0 differ named.sections is.0 is.1 names in
      λ i. record { 0 = number i }

  same_edges : d.edges ≡ e.edges
  same_edges = one_array _ _ a.file b.file "edge" d.edges e.edges same_file
      (λ keys x y m k p q.
      let g = good_edge d good x m in
      same_edge x y
      (one_text x.name y.name (sym p.0 ∙ q.0))
      (same_end x.from y.from (one_node x.from.node y.from.node g.from (sym p.1.0 ∙ q.1.0)) (one_side x.from.side y.from.side (sym p.1.1.0 ∙ q.1.1.0)))
      (same_end x.to y.to (one_node x.to.node y.to.node g.to (sym p.1.1.1.0 ∙ q.1.1.1.0)) (one_side x.to.side y.to.side (sym p.1.1.1.1.0 ∙ q.1.1.1.1.0)))
      (one_whole x.length_mm y.length_mm (sym p.1.1.1.1.1.0 ∙ q.1.1.1.1.1.0))
      (one_whole x.speed_mm_s y.speed_mm_s (sym p.1.1.1.1.1.1.0 ∙ q.1.1.1.1.1.1.0))
      (one_section x.section y.section g.section (sym p.1.1.1.1.1.1.1.0 ∙ q.1.1.1.1.1.1.1.0)))
      a.edges b.edges

  -- ---- signals and vehicles

  same_signals : d.signals ≡ e.signals
  same_signals = one_array _ _ a.file b.file "signal" d.signals e.signals same_file
      (λ keys x y m k p q. same_signal x y
      (one_text x.name y.name (sym p.0 ∙ q.0))
      (one_node x.node y.node (good_signal d good x m).node (sym p.1.0 ∙ q.1.0))
      (one_side x.toward y.toward (sym p.1.1.0 ∙ q.1.1.0)))
      a.signals b.signals

  one_signal : (n m : SignalNo) → IsSignal d n → string (signal_name d n) ≡ string (signal_name e m) → n ≡ m
  one_signal n m is same =
      let names : signal_name d n ≡ signal_name d m = one_text (signal_name d n) (signal_name e m) same ∙ ap (λ signals. (entry no_signal signals m.0).name) (sym same_signals) in
      let number : n.0 ≡ m.0 = one_number (λ (q : Signal). q.name) no_signal refl d.signals n.0 m.0 good.signal_names named.signals is.0 is.1 names in
      λ i. record { 0 = number i }

  same_vehicles : d.vehicles ≡ e.vehicles
  same_vehicles = one_array _ _ a.file b.file "vehicle" d.vehicles e.vehicles same_file
      (λ keys x y m k p q. same_vehicle x y
      (one_text x.name y.name (sym p.0 ∙ q.0))
      (one_whole x.length_mm y.length_mm (sym p.1.0 ∙ q.1.0))
      (one_whole x.accel_mm_s2 y.accel_mm_s2 (sym p.1.1.1.0 ∙ q.1.1.1.0))
      (one_whole x.brake_mm_s2 y.brake_mm_s2 (sym p.1.1.1.1.0 ∙ q.1.1.1.1.0))
      (one_whole x.speed_mm_s y.speed_mm_s (sym p.1.1.0 ∙ q.1.1.0)))
      a.vehicles b.vehicles

  one_vehicle : (n m : VehicleNo) → IsVehicle d n → string (vehicle_at d n).name ≡ string (vehicle_at e m).name → n ≡ m
  one_vehicle n m is same =
      let names : (vehicle_at d n).name ≡ (vehicle_at d m).name = one_text (vehicle_at d n).name (vehicle_at e m).name same ∙ ap (λ vehicles. (entry no_vehicle vehicles m.0).name) (sym same_vehicles) in
      let number : n.0 ≡ m.0 = one_number (λ (v : Vehicle). v.name) no_vehicle refl d.vehicles n.0 m.0 good.vehicle_names named.vehicles is.0 is.1 names in
      λ i. record { 0 = number i }

  -- ---- trains

  same_trains : d.trains ≡ e.trains
  same_trains = one_array _ _ a.file b.file "train" d.trains e.trains same_file
      (λ keys x y m k p q.
      let g = good_train d good x m in
      let visits = one_list _ _ x.visits y.visits (λ set other k is. one_set set other (g.there set k) is) (sym p.1.1.0 ∙ q.1.1.0) in
      same_train x y
      (one_text x.name y.name (sym p.0 ∙ q.0))
      (one_vehicle x.vehicle y.vehicle g.vehicle (sym p.1.0 ∙ q.1.0))
      visits
      (one_dwells d.version keys x y p.1.1.1 (subst (λ version. HasRows keys (dwell_rows version y)) (sym same_version) q.1.1.1) (a.dwells x m) (λ low. b.dwells y k (subst (λ version. version < 3) same_version low)) visits))
      a.trains b.trains

  one_train : (n m : TrainNo) → IsTrain d n → string (train_name d n) ≡ string (train_name e m) → n ≡ m
  one_train n m is same =
      let names : train_name d n ≡ train_name d m = one_text (train_name d n) (train_name e m) same ∙ ap (λ trains. (entry no_train trains m.0).name) (sym same_trains) in
      let number : n.0 ≡ m.0 = one_number (λ (t : Train). t.name) no_train refl d.trains n.0 m.0 good.train_names named.trains is.0 is.1 names in
      λ i. record { 0 = number i }

  -- ---- orders and withins

  same_orders : d.orders ≡ e.orders
  same_orders = one_array _ _ a.file b.file "order" d.orders e.orders same_file
      (λ keys x y m k p q.
      let g = good.order x m in
      same_order x y
      (one_train x.first_train y.first_train g.first_names.0 (sym p.0 ∙ q.0))
      (one_whole x.first_visit y.first_visit (sym p.1.0 ∙ q.1.0))
      (one_train x.then_train y.then_train g.after.0 (sym p.1.1.0 ∙ q.1.1.0))
      (one_whole x.then_visit y.then_visit (sym p.1.1.1.0 ∙ q.1.1.1.0)))
      a.orders b.orders

  same_withins : d.withins ≡ e.withins
  same_withins = one_array _ _ a.file b.file "within" d.withins e.withins same_file
      (λ keys x y m k p q.
      let g = good.within x m in
      same_within x y
      (one_train x.from_train y.from_train g.from.0 (sym p.0 ∙ q.0))
      (one_whole x.from_visit y.from_visit (sym p.1.0 ∙ q.1.0))
      (one_train x.to_train y.to_train g.to.0 (sym p.1.1.0 ∙ q.1.1.0))
      (one_whole x.to_visit y.to_visit (sym p.1.1.1.0 ∙ q.1.1.1.0))
      (one_whole x.max_ms y.max_ms (sym p.1.1.1.1.0 ∙ q.1.1.1.1.0)))
      a.withins b.withins

  -- ---- overlaps

  same_overlaps : d.overlaps ≡ e.overlaps
  same_overlaps = one_array _ _ a.file b.file "overlap" d.overlaps e.overlaps same_file
      (λ keys x y m k p q.
      let g = good.overlap x m in
      same_overlap x y
      (one_signal x.signal y.signal g.signal (sym p.0 ∙ q.0))
      (one_list _ _ x.sections y.sections (λ z w i is. one_section z w (g.there z i) is) (sym p.1.0 ∙ q.1.0))
      (one_whole x.hold_ms y.hold_ms (sym p.1.1.0 ∙ q.1.1.0)))
      a.overlaps b.overlaps

  -- ---- the design

  pub one_design : d ≡ e
  one_design =
      let tick = one_whole d.tick_ms e.tick_ms (sym a.top.1.0 ∙ same_top.1.0) in
      let horizon = one_whole d.horizon_ms e.horizon_ms (sym a.top.1.1.0 ∙ same_top.1.1.0) in
      λ i. record {
        version = same_version i;
        tick_ms = tick i;
        horizon_ms = horizon i;
        nodes = same_nodes i;
        edges = same_edges i;
        sections = same_sections i;
        signals = same_signals i;
        vehicles = same_vehicles i;
        trains = same_trains i;
        orders = same_orders i;
        withins = same_withins i;
        overlaps = same_overlaps i;
      }
