-- The design that is read from a document is spelled by it.
use Rattle.std.proofs.Common.{◌≡◌, ℕ, ◌/◌, ◌≤◌, ◌<◌, ℤ, pos, negsuc, Bool, true, false, not, ◌&&◌, ◌||◌, ◌==◌, nat_le, nat_lt, if◌then◌else◌, List, [], ◌∷◌, ◌++◌, map, length, Option, Some, None, refl, sym, ap, subst, ◌∙◌, arith}
use Rattle.std.proofs.Math.Nat.{div-le_self}
use Rattle.std.specs.Prelude.{int_le, is_none}
use Rattle.std.specs.Ordering.{int_eq}
use Rattle.std.specs.Str.{is_utf8}
use Rattle.toml.specs.Parse.{parse_document}
use Rattle.toml.specs.Data.{Members, string}
use Rattle.design_table.specs.declared.key.Key.{Key}
use Rattle.design_table.specs.declared.key.Key.TheVariants as keys
use Rattle.design_table.specs.declared.place.EntryKind.{EntryKind}
use Rattle.design_table.specs.declared.place.EntryKind.TheVariants as kinds
use Rattle.design_table.specs.declared.place.Place.{Place}
use Rattle.design_table.specs.declared.place.Place.TheVariants.{Top, Field, Unknown}
use Rattle.design_table.specs.declared.field.Form.TheVariants as forms
use Rattle.design_table.specs.Forms.{found, name_of, is_name, is_names, names_of as listed_names, is_whole, whole_of, is_wholes, wholes_of, visits_of, has_unknown}
use Rattle.design_table.specs.Keys.{column, columns_of, key_text, top_keys, version_number}
use Rattle.design_table.specs.Reads.{at}
use Rattle.design_table.specs.Sheet.{version_of, entries_of, sheet_of, is_right, wrong_whole, wrong_array, form_fault, value_of, top_value}
use Rattle.design_table.specs.Parsed.{ParsedNode, ParsedEdge, ParsedSignal, ParsedVehicle, ParsedTrain, ParsedWithin, ParsedOverlap, ParsedSheet, node_of, edge_of, signal_of, vehicle_of, train_of, order_of, within_of, overlap_of}
use Rattle.rail_base.specs.declared.station.Station.{Station}
use Rattle.rail_base.specs.declared.station.Node.{Node}
use Rattle.rail_base.specs.declared.station.Edge.{Edge}
use Rattle.rail_base.specs.declared.station.Signal.{Signal}
use Rattle.rail_base.specs.declared.station.Vehicle.{Vehicle}
use Rattle.rail_base.specs.declared.station.Train.{Train}
use Rattle.rail_base.specs.Admission.{is_from}
use Rattle.rail_base.specs.Admitted.{IsAdmitted, Ranges}
use Rattle.rail_base.specs.Members.{In}
use Rattle.rail_base.specs.Numbering.{entry}
use Rattle.rail_base.specs.Names.{node_name, section_name, signal_name, train_name}
use Rattle.rail_base.specs.Stations.{IsNode, IsSignal, IsVehicle, IsTrain, no_train, no_vehicle, vehicle_at}
use Rattle.rail_base.proofs.Lists.{in_map, in_map_back}
use Rattle.rail_base.proofs.Members.{and_left, and_right, list_all_at, map-map}
use Rattle.infra_reader.specs.Limits.{limit, is_kept, limits_outside, are_few_visits, are_good_dwells, unless_from, count_outside, array_outside, vehicle_outside, train_outside, within_outside, overlap_outside, times_outside, track_outside, traffic_outside, out_of_range}
use Rattle.infra_reader.specs.Names.{Names, names_of, number_in, section_names}
use Rattle.infra_reader.specs.Stations.{number_32, nodes_in, dwells_in, node_in, edge_in, signal_in, vehicle_in, train_in, order_in, within_in, sections_in, overlap_in, station_of}
use Rattle.infra_reader.proofs.Spelling.{is_spelled}
use Rattle.rail_spelling.specs.Designs.{Row, Spells, HasRows, whole, list, dwell_rows, each_once}
use Rattle.rail_spelling.proofs.Entries.{good_edge, good_signal, good_vehicle, good_train}
use Rattle.rail_base.specs.declared.station.Overlap.{Overlap}
use Rattle.rail_spelling.proofs.One.{no_node, no_signal}
use Rattle.rail_spelling.proofs.Numbers.{name_back, entry_back, map_made}
use Rattle.rail_spelling.proofs.Once.{same_once}
use Rattle.rail_spelling.proofs.Tables.{AreRight, has_tables, not_there, none_unknown, none_in, no_left, no_right, passes}
use Rattle.rail_spelling.proofs.Values.{value, kept, spells_name, spells_flag, spells_side, spells_exactly, spells_whole, spells_wholes, spells_visits, number, section_number, spells_names}

-- ---- numbers in range

in_range : (low high : ℕ) (z : ℤ) → high < 4294967296 → (int_le (pos low) z && int_le z (pos high)) ≡ true → z ≡ pos (number_32 z)
in_range low high (pos n) fits h = ap pos (sym (small (nat_lt n 4294967296) (grind (arith, and_right (nat_le low n) (nat_le n high) h))))
  where
    small : (b : Bool) → b ≡ true → (if b then n else 0) ≡ n
    small b e = rw e refl
in_range low high (negsuc n) fits h = absurd (cc)

exact : (low high : ℕ) (z : ℤ) (place : Place) → high < 4294967296 → unless_from low high z place ≡ [] → z ≡ pos (number_32 z)
unfolding unless_from
exact low high z place fits h = in_range low high z fits (passes (int_le (pos low) z && int_le z (pos high)) place h)

-- the number of an admitted version
version_kept : (n : ℕ) → n ≤ 4 → version_number (pos n) ≡ n
version_kept n most = go (nat_le n 4) (grind arith)
  where
    go : (b : Bool) → b ≡ true → (if b then n else 0) ≡ n
    go b e = rw e refl

-- a key with one number, where none after it is out of range
last_kept : (kind : EntryKind) (i : ℕ) (key : Key) (low high : ℕ) (z : ℤ) → limits_outside kind i (limit key low high (z ∷ []) ∷ []) ≡ [] → unless_from low high z (Field kind i key) ≡ []
unfolding unless_from
last_kept kind i key low high z h =
    let fits = int_le (pos low) z && int_le z (pos high) in
    let all = passes (is_kept (limit key low high (z ∷ []))) (Field kind i key) (no_left (at (not (is_kept (limit key low high (z ∷ [])))) (Field kind i key)) [] h) in
    rw (and_left fits true all) refl

long : (a b : ℕ) → 1 ≤ a / b → 1 ≤ a
long a b h = let most = div-le_self a b in omega arith

-- one more row
row : {A B : Type 0} → A → B → A × B
row a b = (a, b)

-- ---- how long a train stands

dwells_exact : (visits : List (List (List ℕ))) (said : Option (List ℤ)) → are_good_dwells visits said ≡ true → (dwells : List ℤ) → said ≡ Some dwells → (z : ℤ) → In z dwells → z ≡ pos (number_32 z)
dwells_exact visits None h dwells is z m = absurd (cc)
dwells_exact visits (Some own) h dwells is z m =
    let same : own ≡ dwells = cc in
    let many = length own == length visits in
    let small = is_kept (limit keys.DwellMs 0 3600000 own) in
    let all = and_right many small (and_left (many && small) (int_eq (entry (pos 0) own 1) (pos 0)) h) in
    in_range 0 3600000 z (omega arith) (list_all_at (λ n. int_le (pos 0) n && int_le n (pos 3600000)) own z all (subst (In z) (sym same) m))

spells_dwells : (version : ℕ) (names : Names) (entry : Members) → is_right version entry (column keys.DwellMs forms.Wholes 3) ≡ true → (let t = train_of (value_of version kinds.Train entry) in are_good_dwells t.visits t.dwell_ms ≡ true)
    → HasRows entry (dwell_rows version (train_in names (train_of (value_of version kinds.Train entry))))
spells_dwells version names entry right good = go (nat_le 3 version) refl
  where
    said : Option (List ℤ)
    said = wholes_of (value_of version kinds.Train entry keys.DwellMs)

    go : (b : Bool) → nat_le 3 version ≡ b → HasRows entry (dwell_rows version (train_in names (train_of (value_of version kinds.Train entry))))
    go false e = rw e tt
    go true e =
        let there : value_of version kinds.Train entry keys.DwellMs ≡ found keys.DwellMs entry = rw e refl in
        let form : is_wholes (found keys.DwellMs entry) ≡ true = sym (ap (λ b. not b || is_wholes (found keys.DwellMs entry)) e) ∙ right in
        let visits = visits_of (found keys.Visits entry) in
        let kept = dwells_exact visits (wholes_of (found keys.DwellMs entry)) (subst (λ v. are_good_dwells visits (wholes_of v) ≡ true) there good) in
        let spelled = spells_wholes (found keys.DwellMs entry) visits form kept in
        let back : value (found keys.DwellMs entry) ≡ list whole (dwells_in visits said) = spelled ∙ ap (λ v. list whole (dwells_in visits (wholes_of v))) (sym there) in
        by_version true e back
      where
        by_version : (b : Bool) → nat_le 3 version ≡ b → value (found keys.DwellMs entry) ≡ list whole (dwells_in (visits_of (found keys.Visits entry)) said) → HasRows entry (if nat_le 3 version then ("dwell_ms", list whole (dwells_in (visits_of (found keys.Visits entry)) said)) ∷ [] else [])
        by_version true e h = subst (λ b. HasRows entry (if b then ("dwell_ms", list whole (dwells_in (visits_of (found keys.Visits entry)) said)) ∷ [] else [])) (sym e) (h, tt)
        by_version false e h = subst (λ b. HasRows entry (if b then ("dwell_ms", list whole (dwells_in (visits_of (found keys.Visits entry)) said)) ∷ [] else [])) (sym e) tt

-- a train stands nowhere of which that isn't said
stands_nowhere : {V W : Type 0} (f : V → W) (third : Bool) (visits : List V) (said : Option (List ℤ)) → (third || is_none said) ≡ true → third ≡ false → dwells_in visits said ≡ map (λ visit. 0) (map f visits)
stands_nowhere f third visits None h e = sym (map-map (λ visit. 0) f visits)
stands_nowhere f third visits (Some dwells) h e = let no : (false || false) ≡ true = sym (ap (λ b. b || false) e) ∙ h in absurd (cc)

-- ---- the station of a sheet

module _ (file : Members) (good : IsAdmitted (station_of (sheet_of file))) where
  abbrev s : ParsedSheet
  s = sheet_of file

  abbrev v : ℕ
  v = version_of file

  abbrev names : Names
  names = names_of s

  abbrev d : Station
  d = station_of s

  node_back : (name : List ℕ) → IsNode d (record { 0 = number_in names.nodes name }) → node_name d (record { 0 = number_in names.nodes name }) ≡ name
  node_back name is = entry_back (λ (n : Node). n.name) (node_in names) (λ (n : ParsedNode). n.name) no_node s.nodes name refl (λ p. refl) is.1

  section_back : (name : List ℕ) → Ranges 1 (length d.sections) (number_in names.sections name) → section_name d (record { 0 = number_in names.sections name }) ≡ name
  section_back name is = name_back names.sections name is.1

  signal_back : (name : List ℕ) → IsSignal d (record { 0 = number_in names.signals name }) → signal_name d (record { 0 = number_in names.signals name }) ≡ name
  signal_back name is = entry_back (λ (q : Signal). q.name) (signal_in names) (λ (q : ParsedSignal). q.name) no_signal s.signals name refl (λ p. refl) is.1

  vehicle_back : (name : List ℕ) → IsVehicle d (record { 0 = number_in names.vehicles name }) → (vehicle_at d (record { 0 = number_in names.vehicles name })).name ≡ name
  vehicle_back name is = entry_back (λ (v : Vehicle). v.name) (vehicle_in names) (λ (v : ParsedVehicle). v.name) no_vehicle s.vehicles name refl (λ p. refl) is.1

  train_back : (name : List ℕ) → IsTrain d (record { 0 = number_in names.trains name }) → train_name d (record { 0 = number_in names.trains name }) ≡ name
  train_back name is = entry_back (λ (t : Train). t.name) (train_in names) (λ (t : ParsedTrain). t.name) no_train s.trains name refl (λ p. refl) is.1

  sections_once : d.sections ≡ each_once (map (λ e. section_name d e.section) d.edges)
  sections_once =
      same_once (section_names s)
      ∙ ap each_once (sym (map_made (λ (e : Edge). section_name d e.section) (edge_in names) (λ (e : ParsedEdge). e.section) s.edges (λ e m. section_back e.section (good_edge d good (edge_in names e) (in_map (edge_in names) s.edges e m)).section)))

  -- ---- the rows of entries

  module _ (bytes : List ℕ) (utf8 : is_utf8 bytes ≡ true) (toml : parse_document bytes ≡ Some file) (forms : form_fault file ≡ []) (ranges : out_of_range s ≡ []) where
    most : (w : ParsedWithin) → In w s.withins → w.max_ms ≡ pos (number_32 w.max_ms)
    unfolding out_of_range traffic_outside array_outside
    most w m =
        let h1 = no_right (times_outside s) (track_outside s ++ traffic_outside s) ranges in
        let h2 = no_right (track_outside s) (traffic_outside s) h1 in
        let h3 = no_right (array_outside vehicle_outside 0 64 keys.Vehicle s.vehicles) _ h2 in
        let h4 = no_right (array_outside train_outside 1 128 keys.Train s.trains) _ h3 in
        let h5 = no_right (count_outside 0 256 keys.Order s.orders) _ h4 in
        let h6 = no_right (count_outside 0 256 keys.Within s.withins) _ (no_left (array_outside within_outside 0 256 keys.Within s.withins) _ h5) in
        let one = none_in within_outside 1 s.withins w h6 m in
        exact 0 86400000 w.max_ms (Field kinds.Within one.0 keys.MaxMs) (omega arith) (last_kept kinds.Within one.0 keys.MaxMs 0 86400000 w.max_ms one.1)

    held : (o : ParsedOverlap) → In o s.overlaps → o.hold_ms ≡ pos (number_32 o.hold_ms)
    unfolding out_of_range traffic_outside array_outside
    held o m =
        let h1 = no_right (times_outside s) (track_outside s ++ traffic_outside s) ranges in
        let h2 = no_right (track_outside s) (traffic_outside s) h1 in
        let h3 = no_right (array_outside vehicle_outside 0 64 keys.Vehicle s.vehicles) _ h2 in
        let h4 = no_right (array_outside train_outside 1 128 keys.Train s.trains) _ h3 in
        let h5 = no_right (count_outside 0 256 keys.Order s.orders) _ h4 in
        let h6 = no_right (array_outside within_outside 0 256 keys.Within s.withins) _ h5 in
        let h7 = no_right (count_outside 0 1000 keys.Overlap s.overlaps) _ h6 in
        let one = none_in overlap_outside 1 s.overlaps o h7 m in
        exact 0 600000 o.hold_ms (Field kinds.Overlap one.0 keys.HoldMs) (omega arith) (last_kept kinds.Overlap one.0 keys.HoldMs 0 600000 o.hold_ms (no_right (at (not (is_from 1 16 (length o.sections))) (Field kinds.Overlap one.0 keys.Sections)) _ one.1))

    stand : (t : ParsedTrain) → In t s.trains → are_good_dwells t.visits t.dwell_ms ≡ true
    unfolding out_of_range traffic_outside array_outside
    stand t m =
        let h1 = no_right (times_outside s) (track_outside s ++ traffic_outside s) ranges in
        let h2 = no_right (track_outside s) (traffic_outside s) h1 in
        let h3 = no_right (array_outside vehicle_outside 0 64 keys.Vehicle s.vehicles) _ h2 in
        let h4 = no_left (array_outside train_outside 1 128 keys.Train s.trains) _ h3 in
        let h5 = no_right (count_outside 1 128 keys.Train s.trains) _ h4 in
        let one = none_in train_outside 1 s.trains t h5 m in
        passes (are_good_dwells t.visits t.dwell_ms) (Field kinds.Train one.0 keys.DwellMs) (no_right (at (not (are_few_visits t.visits)) (Field kinds.Train one.0 keys.Visits)) _ one.1)

    version_whole : s.version ≡ pos d.version
    version_whole = kept s.version good.version.0

    version_is : v ≡ d.version
    unfolding sheet_of
    version_is = ap version_number version_whole ∙ version_kept d.version good.version.1

    stands : (x : ParsedTrain) → In x s.trains → d.version < 3 → dwells_in x.visits x.dwell_ms ≡ map (λ visit. 0) (map (nodes_in names.nodes) x.visits)
    stands x m low =
        let third = int_le (pos 3) s.version in
        let early : int_le (pos 3) (pos d.version) ≡ false = grind arith in
        stands_nowhere (nodes_in names.nodes) third x.visits x.dwell_ms (list_all_at (λ (t : ParsedTrain). int_le (pos 3) s.version || is_none t.dwell_ms) s.trains x (is_spelled file forms).dwells m) (ap (int_le (pos 3)) version_whole ∙ early)

    -- ---- overlaps, of which there are none before version 4

    abbrev overlap_rows : Overlap → List Row
    overlap_rows o = ("signal", string (signal_name d o.signal)) ∷ ("sections", list (λ z. string (section_name d z)) o.sections) ∷ ("hold_ms", whole o.hold_ms) ∷ []

    overlap_spelled : (entry : Members) → In (overlap_of (value_of v kinds.Overlap entry)) s.overlaps → AreRight v entry (columns_of kinds.Overlap) → HasRows entry (overlap_rows (overlap_in names (overlap_of (value_of v kinds.Overlap entry))))
    unfolding sheet_of entries_of
    overlap_spelled entry m right = by_version (nat_le 4 v) refl
      where
        x : ParsedOverlap
        x = overlap_of (value_of v kinds.Overlap entry)

        by_version : (b : Bool) → nat_le 4 v ≡ b → HasRows entry (overlap_rows (overlap_in names (overlap_of (value_of v kinds.Overlap entry))))
        by_version false e = let none : s.overlaps ≡ [] = rw e refl in absurd (subst (In x) none m)
        by_version true e =
            let g = good.overlap (overlap_in names x) (in_map (overlap_in names) s.overlaps x m) in
            let signal : value_of v kinds.Overlap entry keys.Signal ≡ found keys.Signal entry = rw e refl in
            let sections : value_of v kinds.Overlap entry keys.Sections ≡ found keys.Sections entry = rw e refl in
            let hold : value_of v kinds.Overlap entry keys.HoldMs ≡ found keys.HoldMs entry = rw e refl in
            let form : (b : Bool) → (not (nat_le 4 v) || b) ≡ true → b ≡ true = λ b h. sym (ap (λ known. not known || b) e) ∙ h in
            let there = λ (name : List ℕ) (k : In name (listed_names (found keys.Sections entry))). section_back name (g.there (section_number names.sections name) (in_map (section_number names.sections) x.sections name (subst (λ v. In name (listed_names v)) (sym sections) k))) in
            row (spells_name (found keys.Signal entry) (form (is_name (found keys.Signal entry)) right.0) ∙ ap (λ v. string (name_of v)) (sym signal) ∙ ap string (sym (signal_back x.signal g.signal))) (
            row (spells_names names.sections (section_name d) (found keys.Sections entry) (form (is_names (found keys.Sections entry)) right.1.0) there ∙ ap (λ v. list (λ z. string (section_name d z)) (sections_in names.sections (listed_names v))) (sym sections)) (
            row (spells_exactly (found keys.HoldMs entry) (form (is_whole (found keys.HoldMs entry)) right.1.1.0) (subst (λ v. whole_of v ≡ pos (number_32 (whole_of v))) hold (held x m)) ∙ ap (λ v. whole (number_32 (whole_of v))) (sym hold)) tt))

    overlaps_found : has_unknown (top_keys v) file ≡ false → top_value v file keys.Overlap ≡ found keys.Overlap file
    overlaps_found none = by_version (nat_le 4 v) refl
      where
        by_version : (b : Bool) → nat_le 4 v ≡ b → top_value v file keys.Overlap ≡ found keys.Overlap file
        by_version true e = rw e refl
        by_version false e = rw e (sym (not_there (top_keys v) (key_text keys.Overlap) file none (rw e refl)))

    pub spelled : Spells bytes d
    unfolding form_fault sheet_of
    spelled =
        let h1 = no_right (wrong_whole keys.Version file) _ forms in
        let h2 = no_right (wrong_whole keys.TickMs file) _ h1 in
        let h3 = no_right (wrong_whole keys.HorizonMs file) _ h2 in
        let h4 = no_right (wrong_array v kinds.Node file) _ h3 in
        let h5 = no_right (wrong_array v kinds.Edge file) _ h4 in
        let h6 = no_right (wrong_array v kinds.Signal file) _ h5 in
        let h7 = no_right (wrong_array v kinds.Vehicle file) _ h6 in
        let h8 = no_right (wrong_array v kinds.Train file) _ h7 in
        let h9 = no_right (wrong_array v kinds.Order file) _ h8 in
        let h10 = no_right (wrong_array v kinds.Within file) _ h9 in
        let h11 = no_right (wrong_array v kinds.Overlap file) _ h10 in
        record {
          file = file;
          utf8 = utf8;
          toml = toml;
          top =
              row (spells_whole (found keys.Version file) (passes (is_whole (found keys.Version file)) (Top keys.Version) (no_left (wrong_whole keys.Version file) _ forms)) good.version.0) (
              row (spells_whole (found keys.TickMs file) (passes (is_whole (found keys.TickMs file)) (Top keys.TickMs) (no_left (wrong_whole keys.TickMs file) _ h1)) (let low = good.tick.0 in omega arith)) (
              row (spells_whole (found keys.HorizonMs file) (passes (is_whole (found keys.HorizonMs file)) (Top keys.HorizonMs) (no_left (wrong_whole keys.HorizonMs file) _ h2)) (long d.horizon_ms d.tick_ms good.ticks.0)) tt));
          nodes = has_tables v node_of (node_in names) _ kinds.Node file "node" refl (no_left (wrong_array v kinds.Node file) _ h3)
              (λ entry m right.
              row (spells_name (found keys.Name entry) right.0) (
              row (spells_flag (found keys.Boundary entry) right.1.0) tt));
          edges = has_tables v edge_of (edge_in names) _ kinds.Edge file "edge" refl (no_left (wrong_array v kinds.Edge file) _ h4)
              (λ entry m right.
              let g = good_edge d good (edge_in names (edge_of (value_of v kinds.Edge entry))) (in_map (edge_in names) s.edges (edge_of (value_of v kinds.Edge entry)) m) in
              row (spells_name (found keys.Name entry) right.0) (
              row (spells_name (found keys.From entry) right.1.0 ∙ ap string (sym (node_back (name_of (found keys.From entry)) g.from))) (
              row (spells_side (found keys.FromSide entry) right.1.1.0) (
              row (spells_name (found keys.To entry) right.1.1.1.0 ∙ ap string (sym (node_back (name_of (found keys.To entry)) g.to))) (
              row (spells_side (found keys.ToSide entry) right.1.1.1.1.0) (
              row (spells_whole (found keys.LengthMm entry) right.1.1.1.1.1.0 g.length_mm.0) (
              row (spells_whole (found keys.SpeedMmS entry) right.1.1.1.1.1.1.0 g.speed.0) (
              row (spells_name (found keys.Section entry) right.1.1.1.1.1.1.1.0 ∙ ap string (sym (section_back (name_of (found keys.Section entry)) g.section))) tt))))))));
          sections = sections_once;
          signals = has_tables v signal_of (signal_in names) _ kinds.Signal file "signal" refl (no_left (wrong_array v kinds.Signal file) _ h5)
              (λ entry m right.
              let g = good_signal d good (signal_in names (signal_of (value_of v kinds.Signal entry))) (in_map (signal_in names) s.signals (signal_of (value_of v kinds.Signal entry)) m) in
              row (spells_name (found keys.Name entry) right.0) (
              row (spells_name (found keys.Node entry) right.1.0 ∙ ap string (sym (node_back (name_of (found keys.Node entry)) g.node))) (
              row (spells_side (found keys.Toward entry) right.1.1.0) tt)));
          vehicles = has_tables v vehicle_of (vehicle_in names) _ kinds.Vehicle file "vehicle" refl (no_left (wrong_array v kinds.Vehicle file) _ h6)
              (λ entry m right.
              let g = good_vehicle d good (vehicle_in names (vehicle_of (value_of v kinds.Vehicle entry))) (in_map (vehicle_in names) s.vehicles (vehicle_of (value_of v kinds.Vehicle entry)) m) in
              row (spells_name (found keys.Name entry) right.0) (
              row (spells_whole (found keys.LengthMm entry) right.1.0 g.length_mm.0) (
              row (spells_whole (found keys.SpeedMmS entry) right.1.1.1.1.0 g.speed.0) (
              row (spells_whole (found keys.AccelMmS2 entry) right.1.1.0 g.accel.0) (
              row (spells_whole (found keys.BrakeMmS2 entry) right.1.1.1.0 g.brake.0) tt)))));
          trains = has_tables v train_of (train_in names) _ kinds.Train file "train" refl (no_left (wrong_array v kinds.Train file) _ h7)
              (λ entry m right.
              let g = good_train d good (train_in names (train_of (value_of v kinds.Train entry))) (in_map (train_in names) s.trains (train_of (value_of v kinds.Train entry)) m) in
              let there = λ (visit : List (List ℕ)) (k : In visit (visits_of (found keys.Visits entry))) (name : List ℕ) (l : In name visit). node_back name (g.there (nodes_in names.nodes visit) (in_map (nodes_in names.nodes) (visits_of (found keys.Visits entry)) visit k) (number names.nodes name) (in_map (number names.nodes) visit name l)) in
              row (spells_name (found keys.Name entry) right.0) (
              row (spells_name (found keys.Vehicle entry) right.1.0 ∙ ap string (sym (vehicle_back (name_of (found keys.Vehicle entry)) g.vehicle))) (
              row (spells_visits names.nodes (node_name d) (found keys.Visits entry) right.1.1.0 there)
              (subst (λ version. HasRows entry (dwell_rows version (train_in names (train_of (value_of v kinds.Train entry))))) version_is (spells_dwells v names entry right.1.1.1.0 (stand (train_of (value_of v kinds.Train entry)) m))))));
          dwells = λ t m low. let x = in_map_back (train_in names) s.trains t m in subst (λ (t : Train). t.dwell_ms ≡ map (λ visit. 0) t.visits) x.2 (stands x.0 x.1 low);
          orders = has_tables v order_of (order_in names) _ kinds.Order file "order" refl (no_left (wrong_array v kinds.Order file) _ h8)
              (λ entry m right.
              let g = good.order (order_in names (order_of (value_of v kinds.Order entry))) (in_map (order_in names) s.orders (order_of (value_of v kinds.Order entry)) m) in
              row (spells_name (found keys.FirstTrain entry) right.0 ∙ ap string (sym (train_back (name_of (found keys.FirstTrain entry)) g.first_names.0))) (
              row (spells_whole (found keys.FirstVisit entry) right.1.0 g.first_names.1) (
              row (spells_name (found keys.ThenTrain entry) right.1.1.0 ∙ ap string (sym (train_back (name_of (found keys.ThenTrain entry)) g.after.0))) (
              row (spells_whole (found keys.ThenVisit entry) right.1.1.1.0 g.after.1) tt))));
          withins = has_tables v within_of (within_in names) _ kinds.Within file "within" refl (no_left (wrong_array v kinds.Within file) _ h9)
              (λ entry m right.
              let g = good.within (within_in names (within_of (value_of v kinds.Within entry))) (in_map (within_in names) s.withins (within_of (value_of v kinds.Within entry)) m) in
              row (spells_name (found keys.FromTrain entry) right.0 ∙ ap string (sym (train_back (name_of (found keys.FromTrain entry)) g.from.0))) (
              row (spells_whole (found keys.FromVisit entry) right.1.0 g.from.1) (
              row (spells_name (found keys.ToTrain entry) right.1.1.0 ∙ ap string (sym (train_back (name_of (found keys.ToTrain entry)) g.to.0))) (
              row (spells_whole (found keys.ToVisit entry) right.1.1.1.0 g.to.1) (
              row (spells_exactly (found keys.MaxMs entry) right.1.1.1.1.0 (most (within_of (value_of v kinds.Within entry)) m)) tt)))));
          overlaps = has_tables v overlap_of (overlap_in names) overlap_rows kinds.Overlap file "overlap" (overlaps_found (none_unknown (has_unknown (top_keys v) file) Unknown h11)) (no_left (wrong_array v kinds.Overlap file) _ h10) overlap_spelled;
        }
