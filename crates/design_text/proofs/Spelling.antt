-- The document of an admitted design has each key, and each value has its form.
use Rattle.std.proofs.Common.{◌≡◌, ℕ, pos, inl, inr, nat_le, Bool, true, false, not, ◌&&◌, ◌||◌, List, [], ◌∷◌, ◌++◌, length, map, flat_map, Some, refl, sym, ap, subst, ◌∙◌}
use Rattle.std.specs.List.{list_all}
use Rattle.toml.specs.Data.{Data, string, integer, table, Members}
use Rattle.toml.specs.View.{items_of}
use Rattle.design_table.specs.declared.key.Key.{Key}
use Rattle.design_table.specs.declared.place.EntryKind.{EntryKind}
use Rattle.design_table.specs.declared.place.EntryKind.TheVariants as kinds
use Rattle.design_table.specs.declared.place.Place.{Place}
use Rattle.design_table.specs.declared.place.Place.TheVariants.{Field, Top, Unknown, UnknownField}
use Rattle.design_table.specs.declared.key.Column.{Column}
use Rattle.design_table.specs.Forms.{found, is_whole, whole_of, is_wholes, list_of_items, items_of as items_in, is_array, is_name_text, is_name_value, is_side, is_visit, has_unknown}
use Rattle.design_table.specs.Reads.{at, in_each}
use Rattle.design_table.specs.declared.key.Key.TheVariants as keys
use Rattle.design_table.specs.Keys.{kind_key, columns_of, keys_of, top_keys, version_number}
use Rattle.design_table.specs.Sheet.{members_of, version_of, top_value, is_right, wrong_array, wrong_columns, wrong_entry, wrong_whole, faults_in, form_fault}
use Rattle.rail_base.specs.Members.{In}
use Rattle.rail_base.specs.Stations.{node_of, signal_of, no_train, train_of, vehicle_at}
use Rattle.rail_base.specs.Admission.{is_from, is_name, is_node, is_visit as has_visit, is_good_set, is_admitted}
use Rattle.rail_base.specs.declared.station.Station.{Station}
use Rattle.rail_base.specs.declared.station.Node.{Node}
use Rattle.rail_base.specs.declared.station.Edge.{Edge}
use Rattle.rail_base.specs.declared.station.Signal.{Signal}
use Rattle.rail_base.specs.declared.station.Vehicle.{Vehicle}
use Rattle.rail_base.specs.declared.station.Train.{Train}
use Rattle.rail_base.specs.declared.station.Order.{Order}
use Rattle.rail_base.specs.declared.station.Within.{Within}
use Rattle.rail_base.specs.declared.station.Overlap.{Overlap}
use Rattle.rail_base.specs.declared.station.NodeNo.{NodeNo}
use Rattle.rail_base.specs.declared.station.SectionNo.{SectionNo}
use Rattle.rail_base.specs.declared.station.SignalNo.{SignalNo}
use Rattle.rail_base.specs.declared.station.TrainNo.{TrainNo}
use Rattle.rail_base.specs.declared.station.VehicleNo.{VehicleNo}
use Rattle.rail_base.specs.declared.station.Side.{Side}
use Rattle.rail_base.specs.declared.station.Side.TheVariants.{A, B}
use Rattle.rail_base.proofs.Members.{and_left, and_right, and_both, list_all_at}
use Rattle.rail_base.proofs.Lists.{in_map, in_entry}
use Rattle.infra_reader.proofs.Spelling.{same_name}
use Rattle.design_text.specs.Texts.{side_name}
use Rattle.design_text.proofs.Parts.{is_fit, none_unknown}
use Rattle.design_text.proofs.Documents.{array_of, some_array, node_value, section_value, number_value, name_row, visits_row, node_more, dwell_more, table_of, node_table, edge_table, signal_table, vehicle_table, train_table, order_table, within_table, overlap_table, first_part, more_parts, document}
use Rattle.design_text.proofs.Nowhere.{unmet, met, nothing, nowhere_made}
use Rattle.design_text.proofs.Admitting.{ranged, are_all_names, node_names, edge_names, signal_names, vehicle_names, train_names, timed, named, edge_parts, train_parts, visit_parts, signal_parts, order_parts, within_parts, overlap_parts, is_section, no_overlaps, set_parts, good_edge, good_signal, good_train, good_order, good_within, good_overlap}
use Rattle.design_text.proofs.Sheets.{node_named, section_named, signal_named, vehicle_named, train_named, items_listed, version_found, tick_found, horizon_found, nodes_found, edges_found, signals_found, vehicles_found, trains_found, orders_found, withins_found, overlaps_top}

-- ---- entries whose columns are right

columns_right : (version : ℕ) (place : Key → Place) (ms : Members) (columns : List Column) → list_all (λ (c : Column). is_right version ms c) columns ≡ true → flat_map (λ (c : Column). at (not (is_right version ms c)) (place c.key)) columns ≡ []
columns_right version place ms [] right = refl
columns_right version place ms (c ∷ cs) right =
    let rest = list_all (λ (c : Column). is_right version ms c) cs in
    nothing (at (not (is_right version ms c)) (place c.key)) (flat_map (λ (c : Column). at (not (is_right version ms c)) (place c.key)) cs) (met (is_right version ms c) (place c.key) (and_left (is_right version ms c) rest right)) (columns_right version place ms cs (and_right (is_right version ms c) rest right))

entry_right : (version : ℕ) (kind : EntryKind) (n : ℕ) (ms : Members) → list_all (λ (c : Column). is_right version ms c) (columns_of kind) ≡ true → has_unknown (keys_of version kind) ms ≡ false → wrong_entry version kind n (table ms) ≡ []
entry_right version kind n ms right none =
    let unknown = has_unknown (keys_of version kind) ms in
    nothing (wrong_columns version kind n ms) (at unknown (UnknownField kind n)) (columns_right version (Field kind n) ms (columns_of kind) right) (unmet unknown (UnknownField kind n) none)

entries_right : {X : Type 0} (version : ℕ) (kind : EntryKind) (value : X → Data) (xs : List X) → ((n : ℕ) (x : X) → In x xs → wrong_entry version kind n (value x) ≡ []) → in_each (wrong_entry version kind) (list_of_items (items_of (map value xs))) ≡ []
entries_right version kind value xs right = subst (λ values. in_each (wrong_entry version kind) values ≡ []) (sym (items_listed (map value xs))) (nowhere_made (wrong_entry version kind) value xs right)

all_listed : {X : Type 0} (test : Data → Bool) (value : X → Data) (xs : List X) → ((x : X) → In x xs → test (value x) ≡ true) → list_all test (list_of_items (items_of (map value xs))) ≡ true
all_listed test value [] right = refl
all_listed test value (x ∷ xs) right = and_both (test (value x)) (list_all test (list_of_items (items_of (map value xs)))) (right x (inl refl)) (all_listed test value xs (λ y m. right y (inr m)))

-- an array that is there if it has entries
array_right : {X : Type 0} (version : ℕ) (kind : EntryKind) (holds : X → Data) (xs : List X) (ms : Members) → top_value version ms (kind_key kind) ≡ some_array holds xs → ((n : ℕ) (x : X) → In x xs → wrong_entry version kind n (holds x) ≡ []) → wrong_array version kind ms ≡ []
unfolding wrong_array
array_right version kind holds xs ms is right =
    subst (λ v. at (not (is_array v)) (Top (kind_key kind)) ++ in_each (wrong_entry version kind) (items_in v) ≡ []) (sym is) (of_entries kind holds xs right)
  where
    of_entries : {X : Type 0} (kind : EntryKind) (holds : X → Data) (xs : List X) → ((n : ℕ) (x : X) → In x xs → wrong_entry version kind n (holds x) ≡ [])
        → at (not (is_array (some_array holds xs))) (Top (kind_key kind)) ++ in_each (wrong_entry version kind) (items_in (some_array holds xs)) ≡ []
    of_entries kind holds [] right = refl
    of_entries kind holds (x ∷ xs) right = entries_right version kind holds (x ∷ xs) right

-- a number at the top
whole_right : (key : Key) (ms : Members) (n : ℕ) → found key ms ≡ Some (integer (pos n)) → wrong_whole key ms ≡ []
whole_right key ms n is = rw is refl

all_nothing : (a b c n e s v t o w l u : List Place) → a ≡ [] → b ≡ [] → c ≡ [] → n ≡ [] → e ≡ [] → s ≡ [] → v ≡ [] → t ≡ [] → o ≡ [] → w ≡ [] → l ≡ [] → u ≡ []
    → a ++ (b ++ (c ++ (n ++ (e ++ (s ++ (v ++ (t ++ (o ++ (w ++ (l ++ u)))))))))) ≡ []
all_nothing a b c n e s v t o w l u p1 p2 p3 p4 p5 p6 p7 p8 p9 p10 p11 p12 = rw (p1, p2, p3, p4, p5, p6, p7, p8, p9, p10, p11, p12) refl

form_right : (ms : Members) (a b c : ℕ) → found keys.Version ms ≡ Some (integer (pos a)) → found keys.TickMs ms ≡ Some (integer (pos b)) → found keys.HorizonMs ms ≡ Some (integer (pos c))
    → wrong_array a kinds.Node ms ≡ [] → wrong_array a kinds.Edge ms ≡ [] → wrong_array a kinds.Signal ms ≡ [] → wrong_array a kinds.Vehicle ms ≡ [] → wrong_array a kinds.Train ms ≡ [] → wrong_array a kinds.Order ms ≡ [] → wrong_array a kinds.Within ms ≡ [] → wrong_array a kinds.Overlap ms ≡ []
    → has_unknown (top_keys a) ms ≡ false → nat_le a 4 ≡ true → form_fault ms ≡ []
unfolding form_fault
form_right ms a b c va vb vc n e s v t o w l none known =
    let kept : version_number (pos a) ≡ a = rw known refl in
    let version : version_of ms ≡ a = ap (λ v. version_number (whole_of v)) va ∙ kept in
    subst (λ z. faults_in z ms ≡ []) (sym version)
    (all_nothing (wrong_whole keys.Version ms) (wrong_whole keys.TickMs ms) (wrong_whole keys.HorizonMs ms)
    (wrong_array a kinds.Node ms) (wrong_array a kinds.Edge ms) (wrong_array a kinds.Signal ms) (wrong_array a kinds.Vehicle ms) (wrong_array a kinds.Train ms) (wrong_array a kinds.Order ms) (wrong_array a kinds.Within ms) (wrong_array a kinds.Overlap ms)
    (at (has_unknown (top_keys a) ms) Unknown)
    (whole_right keys.Version ms a va) (whole_right keys.TickMs ms b vb) (whole_right keys.HorizonMs ms c vc) n e s v t o w l (unmet (has_unknown (top_keys a) ms) Unknown none))

-- ---- values

side_right : (s : Side) → is_side (Some (string (side_name s))) ≡ true
side_right A = refl
side_right B = refl

text_right : (text : List ℕ) → is_name text ≡ true → is_name_text text ≡ true
text_right text h = same_name text ∙ h

pub name_right : {X : Type 0} (name : X → List ℕ) (xs : List X) (x : X) → list_all is_name (map name xs) ≡ true → In x xs → is_name_text (name x) ≡ true
name_right name xs x h m = text_right (name x) (list_all_at is_name (map name xs) (name x) h (in_map name xs x m))

-- ---- tests joined, as the columns have them

edge_joined : (a b c d e f : Bool) → a ≡ true → b ≡ true → c ≡ true → d ≡ true → e ≡ true → f ≡ true → (a && (b && (c && (d && (e && (f && true)))))) ≡ true
edge_joined a b c d e f p q r s t u = rw (p, q, r, s, t, u) refl

joined_four : (a b c d : Bool) → a ≡ true → b ≡ true → c ≡ true → d ≡ true → (a && (b && (c && (d && true)))) ≡ true
joined_four a b c d p q r s = rw (p, q, r, s) refl

or_true : (a : Bool) {b : Bool} → b ≡ true → (a || b) ≡ true
or_true true h = refl
or_true false h = h

joined_three : (a b c : Bool) → a ≡ true → b ≡ true → c ≡ true → (a && (b && (c && true))) ≡ true
joined_three a b c p q r = rw (p, q, r) refl

joined_two : (a b : Bool) → a ≡ true → b ≡ true → (a && (b && true)) ≡ true
joined_two a b p q = rw (p, q) refl

joined_one : (a : Bool) → a ≡ true → (a && true) ≡ true
joined_one a p = rw p refl

module _ (d : Station) (admitted : is_admitted d ≡ true) where
  -- ---- names by number

  pub node_right : (n : NodeNo) → is_node d n ≡ true → is_name_text (node_named d n) ≡ true
  node_right n h =
      let r = ranged 1 (length d.nodes) n.0 h in
      name_right (λ (n : Node). n.name) d.nodes (node_of d n) (are_all_names (node_names d) (named d admitted).0) (in_entry (record { name = []; boundary = false }) d.nodes n.0 r.0 r.1)

  pub section_right : (z : SectionNo) → is_from 1 (length d.sections) z.0 ≡ true → is_name_text (section_named d z) ≡ true
  section_right z h =
      let r = ranged 1 (length d.sections) z.0 h in
      text_right (section_named d z) (list_all_at is_name d.sections (section_named d z) (are_all_names d.sections (named d admitted).2) (in_entry [] d.sections z.0 r.0 r.1))

  pub signal_right : (s : SignalNo) → is_from 1 (length d.signals) s.0 ≡ true → is_name_text (signal_named d s) ≡ true
  signal_right s h =
      let r = ranged 1 (length d.signals) s.0 h in
      name_right (λ (s : Signal). s.name) d.signals (signal_of d s) (are_all_names (signal_names d) (named d admitted).3) (in_entry (record { name = []; node = record { 0 = 0 }; toward = A }) d.signals s.0 r.0 r.1)

  pub vehicle_right : (v : VehicleNo) → is_from 1 (length d.vehicles) v.0 ≡ true → is_name_text (vehicle_named d v) ≡ true
  vehicle_right v h =
      let r = ranged 1 (length d.vehicles) v.0 h in
      name_right (λ (v : Vehicle). v.name) d.vehicles (vehicle_at d v) (are_all_names (vehicle_names d) (named d admitted).4) (in_entry (record { name = []; length_mm = 0; accel_mm_s2 = 0; brake_mm_s2 = 0; speed_mm_s = 0 }) d.vehicles v.0 r.0 r.1)

  pub train_right : (t : TrainNo) (j : ℕ) → has_visit d t j ≡ true → is_name_text (train_named d t) ≡ true
  train_right t j h =
      let r = ranged 1 (length d.trains) t.0 (visit_parts d t j h).0 in
      name_right (λ (t : Train). t.name) d.trains (train_of d t) (are_all_names (train_names d) (named d admitted).5) (in_entry no_train d.trains t.0 r.0 r.1)

  visits_right : (visits : List (List NodeNo)) → list_all (is_good_set d) visits ≡ true → list_all is_visit (list_of_items (items_of (map (array_of (node_value d)) visits))) ≡ true
  visits_right visits h = all_listed is_visit (array_of (node_value d)) visits (λ set m. all_listed is_name_value (node_value d) set (λ n i. node_right n (list_all_at (is_node d) set n (set_parts d set (list_all_at (is_good_set d) visits set h m)).1 i)))

  -- ---- entries

  abbrev version : ℕ
  version = d.version

  node_spelled : (n : ℕ) (x : Node) → In x d.nodes → wrong_entry version kinds.Node n (node_table x) ≡ []
  node_spelled n x m = by_boundary x.boundary (name_right (λ (n : Node). n.name) d.nodes x (are_all_names (node_names d) (named d admitted).0) m)
    where
      by_boundary : (b : Bool) → is_name_text x.name ≡ true → wrong_entry version kinds.Node n (table_of (name_row keys.Name x.name ∷ node_more b)) ≡ []
      by_boundary true good = entry_right version kinds.Node n (members_of (table_of (name_row keys.Name x.name ∷ node_more true))) (joined_one (is_name_text x.name) good) refl
      by_boundary false good = entry_right version kinds.Node n (members_of (table_of (name_row keys.Name x.name ∷ node_more false))) (joined_one (is_name_text x.name) good) refl

  edge_spelled : (n : ℕ) (x : Edge) → In x d.edges → wrong_entry version kinds.Edge n (edge_table d x) ≡ []
  edge_spelled n x m =
      let f = edge_parts d x (good_edge d admitted x m) in
      entry_right version kinds.Edge n (members_of (edge_table d x))
      (edge_joined (is_name_text x.name) (is_name_text (node_named d x.from.node)) (is_side (Some (string (side_name x.from.side)))) (is_name_text (node_named d x.to.node)) (is_side (Some (string (side_name x.to.side)))) (is_name_text (section_named d x.section))
      (name_right (λ (e : Edge). e.name) d.edges x (are_all_names (edge_names d) (named d admitted).1) m) (node_right x.from.node f.0) (side_right x.from.side) (node_right x.to.node f.1) (side_right x.to.side) (section_right x.section f.6)) refl

  signal_spelled : (n : ℕ) (x : Signal) → In x d.signals → wrong_entry version kinds.Signal n (signal_table d x) ≡ []
  signal_spelled n x m =
      entry_right version kinds.Signal n (members_of (signal_table d x))
      (joined_three (is_name_text x.name) (is_name_text (node_named d x.node)) (is_side (Some (string (side_name x.toward))))
      (name_right (λ (s : Signal). s.name) d.signals x (are_all_names (signal_names d) (named d admitted).3) m) (node_right x.node (signal_parts d x (good_signal d admitted x m)).0) (side_right x.toward)) refl

  vehicle_spelled : (n : ℕ) (x : Vehicle) → In x d.vehicles → wrong_entry version kinds.Vehicle n (vehicle_table x) ≡ []
  vehicle_spelled n x m =
      entry_right version kinds.Vehicle n (members_of (vehicle_table x))
      (joined_one (is_name_text x.name) (name_right (λ (v : Vehicle). v.name) d.vehicles x (are_all_names (vehicle_names d) (named d admitted).4) m)) refl

  train_spelled : (n : ℕ) (x : Train) → In x d.trains → wrong_entry version kinds.Train n (train_table d x) ≡ []
  train_spelled n x m = by_version (nat_le 3 version) refl
    where
      entry_table : Bool → Data
      entry_table b = table_of (name_row keys.Name x.name ∷ name_row keys.Vehicle (vehicle_named d x.vehicle) ∷ visits_row d x.visits ∷ dwell_more b x.dwell_ms)

      dwells : Bool → Bool
      dwells b = not (nat_le 3 1 || nat_le 3 version) || is_wholes (found keys.DwellMs (members_of (entry_table b)))

      columns : (b : Bool) → dwells b ≡ true → list_all (λ (c : Column). is_right version (members_of (entry_table b)) c) (columns_of kinds.Train) ≡ true
      columns b last =
          let f = train_parts d x (good_train d admitted x m) in
          let name = name_right (λ (t : Train). t.name) d.trains x (are_all_names (train_names d) (named d admitted).5) m in
          let visits = list_all is_visit (list_of_items (items_of (map (array_of (node_value d)) x.visits))) in
          both b (joined_four (is_name_text x.name) (is_name_text (vehicle_named d x.vehicle)) visits (dwells b) name (vehicle_right x.vehicle f.0) (visits_right x.visits f.2) last)
        where
          both : (b : Bool) → (is_name_text x.name && (is_name_text (vehicle_named d x.vehicle) && (list_all is_visit (list_of_items (items_of (map (array_of (node_value d)) x.visits))) && (dwells b && true)))) ≡ true → list_all (λ (c : Column). is_right version (members_of (entry_table b)) c) (columns_of kinds.Train) ≡ true
          both true h = h
          both false h = h

      by_version : (b : Bool) → nat_le 3 version ≡ b → wrong_entry version kinds.Train n (entry_table b) ≡ []
      by_version true e =
          let wholes : is_wholes (found keys.DwellMs (members_of (entry_table true))) ≡ true = all_listed (λ d. is_whole (Some d)) number_value x.dwell_ms (λ n m. refl) in
          entry_right version kinds.Train n (members_of (entry_table true)) (columns true (or_true (not (nat_le 3 1 || nat_le 3 version)) wholes)) (rw e refl)
      by_version false e = entry_right version kinds.Train n (members_of (entry_table false)) (columns false (rw e refl)) refl

  order_spelled : (n : ℕ) (x : Order) → In x d.orders → wrong_entry version kinds.Order n (order_table d x) ≡ []
  order_spelled n x m =
      let f = order_parts d x (good_order d admitted x m) in
      entry_right version kinds.Order n (members_of (order_table d x))
      (joined_two (is_name_text (train_named d x.first_train)) (is_name_text (train_named d x.then_train)) (train_right x.first_train x.first_visit f.0) (train_right x.then_train x.then_visit f.1)) refl

  within_spelled : (n : ℕ) (x : Within) → In x d.withins → wrong_entry version kinds.Within n (within_table d x) ≡ []
  within_spelled n x m =
      let f = within_parts d x (good_within d admitted x m) in
      entry_right version kinds.Within n (members_of (within_table d x))
      (joined_two (is_name_text (train_named d x.from_train)) (is_name_text (train_named d x.to_train)) (train_right x.from_train x.from_visit f.0) (train_right x.to_train x.to_visit f.1)) refl

  overlap_spelled : (n : ℕ) (x : Overlap) → In x d.overlaps → wrong_entry version kinds.Overlap n (overlap_table d x) ≡ []
  overlap_spelled n x m = by_version (nat_le 4 version) refl
    where
      sections : Bool
      sections = list_all is_name_value (list_of_items (items_of (map (section_value d) x.sections)))

      by_version : (b : Bool) → nat_le 4 version ≡ b → wrong_entry version kinds.Overlap n (overlap_table d x) ≡ []
      by_version true e =
          let f = overlap_parts d x (good_overlap d admitted x m) in
          let all = all_listed is_name_value (section_value d) x.sections (λ z i. section_right z (list_all_at (is_section d) x.sections z f.2 i)) in
          entry_right version kinds.Overlap n (members_of (overlap_table d x))
          (rw e (joined_two (is_name_text (signal_named d x.signal)) sections (signal_right x.signal f.0) all)) (rw e refl)
      by_version false e = absurd (subst (λ os. In x os) (no_overlaps d admitted e) m)

  -- ---- the document

  all_fit : list_all (is_fit (top_keys version)) (first_part d ∷ more_parts d) ≡ true
  all_fit = go (nat_le 4 version) refl
    where
      go : (b : Bool) → nat_le 4 version ≡ b → list_all (is_fit (top_keys version)) (first_part d ∷ more_parts d) ≡ true
      go true e = rw e refl
      go false e = rw (e, no_overlaps d admitted e) refl

  none_else : has_unknown (top_keys version) (document d) ≡ false
  unfolding document
  none_else = none_unknown (top_keys version) (first_part d ∷ more_parts d) all_fit

  pub well_spelled : form_fault (document d) ≡ []
  well_spelled =
      form_right (document d) (d.version) (d.tick_ms) (d.horizon_ms) (version_found d) (tick_found d) (horizon_found d)
      (array_right version kinds.Node node_table d.nodes (document d) (nodes_found d) node_spelled)
      (array_right version kinds.Edge (edge_table d) d.edges (document d) (edges_found d) edge_spelled)
      (array_right version kinds.Signal (signal_table d) d.signals (document d) (signals_found d) signal_spelled)
      (array_right version kinds.Vehicle vehicle_table d.vehicles (document d) (vehicles_found d) vehicle_spelled)
      (array_right version kinds.Train (train_table d) d.trains (document d) (trains_found d) train_spelled)
      (array_right version kinds.Order (order_table d) d.orders (document d) (orders_found d) order_spelled)
      (array_right version kinds.Within (within_table d) d.withins (document d) (withins_found d) within_spelled)
      (array_right version kinds.Overlap (overlap_table d) d.overlaps (document d) (overlaps_top d (no_overlaps d admitted)) overlap_spelled)
      none_else (and_right (nat_le 1 d.version) (nat_le d.version 4) (timed d admitted).0)
