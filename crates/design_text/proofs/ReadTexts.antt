-- The text of an admitted design is read as its document.
use Rattle.std.proofs.Common.{rules, FitsSigned, ◌≡◌, ℕ, suc, ◌^◌, ◌<◌, ◌≤◌, pos, Bool, true, false, ◌==◌, inl, inr, List, [], ◌∷◌, ◌++◌, length, map, codes, decimal, Some, refl, sym, ap, subst, ◌∙◌, arith, append_assoc, append-nil, length-append, leb-true}
use Rattle.std.specs.Prelude.{IsAscii}
use Rattle.std.specs.Int.{w64}
use Rattle.std.specs.List.{concat, list_all}
use Rattle.std.proofs.lemmas.Bool.Decides.{nat_tests}
use Rattle.std.proofs.lemmas.List.Folds.{concat-append}
use Rattle.std.proofs.lemmas.Str.{IsUtf8-from_ascii}
use Rattle.toml_parser.specs.Lexical.{first, skip_ws}
use Rattle.toml_parser.proofs.LexicalLemmas.{skip_ws_none}
use Rattle.toml_writer.specs.Text.{key_text as written_key}
use Rattle.toml_writer.proofs.Strings.{is_key_start-key_text}
use Rattle.toml.specs.Data.{Data, integer, no_items}
use Rattle.toml.specs.Tables.{key_value, no_nodes}
use Rattle.toml.specs.Parse.{val, expression, ends_line, line}
use Rattle.toml.proofs.Turns.{keyval_ok, val_array}
use Rattle.toml.proofs.Blanks.{starts_value, skip_start}
use Rattle.toml.proofs.ReadValues.{key_equals-pair}
use Rattle.toml.proofs.ReadLines.{line_turn}
use Rattle.design_table.specs.declared.key.Key.{Key}
use Rattle.design_table.specs.declared.key.Key.TheVariants as keys
use Rattle.design_table.specs.Keys.{key_text}
use Rattle.design_table.specs.Toml.{toml_of}
use Rattle.design_table.proofs.Documents.{toml_found}
use Rattle.rail_base.specs.Members.{In}
use Rattle.rail_base.specs.Names.{node_name}
use Rattle.rail_base.specs.Admission.{is_node, is_good_set, is_admitted}
use Rattle.rail_base.specs.declared.station.Station.{Station}
use Rattle.rail_base.specs.declared.station.Node.{Node}
use Rattle.rail_base.specs.declared.station.Edge.{Edge}
use Rattle.rail_base.specs.declared.station.Signal.{Signal}
use Rattle.rail_base.specs.declared.station.Vehicle.{Vehicle}
use Rattle.rail_base.specs.declared.station.Train.{Train}
use Rattle.rail_base.specs.declared.station.Order.{Order}
use Rattle.rail_base.specs.declared.station.Within.{Within}
use Rattle.rail_base.specs.declared.station.Overlap.{Overlap}
use Rattle.rail_base.specs.declared.station.Side.{Side}
use Rattle.rail_base.specs.declared.station.Side.TheVariants.{A, B}
use Rattle.rail_base.proofs.Members.{list_all_at}
use Rattle.design_text.specs.Texts.{array_lines, number_line, design_lines, design_text, node_line, edge_line, signal_line, vehicle_line, train_line, order_line, within_line, overlap_line}
use Rattle.design_text.proofs.Ascii.{ascii_none, ascii_name, ascii_quotes, ascii_brackets, ascii_number, ascii_array}
use Rattle.design_text.proofs.Keys.{bare}
use Rattle.design_text.proofs.ReadEntries.{Row, IsRead, AllRead, AllNew, field_of_row, LineIsRead, lines_then, entries_read, entry_read, entry_ascii}
use Rattle.design_text.proofs.Parts.{Part, PartIsRead, TextIsRead, parts_text, document_read}
use Rattle.design_text.proofs.Documents.{array_of, name_row, number_row, numbers_row, true_row, visits_row, sections_row, table_of, node_value, section_value, node_more, dwell_more, edge_more, signal_more, vehicle_more, order_more, within_more, overlap_more, node_table, edge_table, signal_table, vehicle_table, train_table, order_table, within_table, overlap_table, number_part, array_part, first_part, more_parts, document}
use Rattle.design_text.proofs.Values.{name_is_text, array_is_text, array_depth, array_dates, name_is_read, number_is_read, numbers_are_read, true_is_read}
use Rattle.design_text.proofs.Admitting.{ranged, are_all_names, node_names, edge_names, signal_names, vehicle_names, train_names, timed, named, edge_parts, vehicle_parts, train_parts, signal_parts, set_parts, order_parts, within_parts, overlap_parts, is_section, good_edge, good_signal, good_vehicle, good_train, dwell_most, good_order, good_within, good_overlap}
use Rattle.design_text.proofs.Spelling.{name_right, node_right, section_right, signal_right, vehicle_right, train_right}
use Rattle.design_text.proofs.Returning.{visit_most, horizon_most}
use Rattle.infra_reader.proofs.Spelling.{same_name}
use Rattle.std.proofs.lemmas.Str.{IsAscii-append}
use Rattle.std.proofs.Common.{if◌then◌else◌, nat_le}
use Rattle.design_table.specs.Forms.{is_name_text}
use Rattle.rail_base.specs.Names.{section_name, signal_name, train_name}
use Rattle.rail_base.specs.Stations.{vehicle_at}
use Rattle.rail_base.specs.Admission.{is_from, is_visit}
use Rattle.rail_base.specs.declared.station.NodeNo.{NodeNo}
use Rattle.rail_base.specs.declared.station.SectionNo.{SectionNo}
use Rattle.rail_base.specs.declared.station.TrainNo.{TrainNo}
use Rattle.design_text.specs.Texts.{entry_line, in_quotes, in_brackets, side_name, visit_text}

-- ---- lines of the document

fits_64 : (n : ℕ) → n < 2 ^ 63 → FitsSigned w64 (pos n)
fits_64 n small = search rules

-- a number
number_read : (key : Key) (number : ℕ) → number < 2 ^ 63 → TextIsRead (key_text key) (number_line key number) (Some (integer (pos number)))
number_read key number small rest =
    line_turn false false ([], key_text key) (key_value (integer (pos number))) (number_line key number) rest (decimal number, rw (bare key) refl, (refl, fits_64 number small)) (refl, omega arith, refl)

-- the lines of an array, as they are gone through
lines_joined : {X : Type 0} (line : X → List ℕ) (xs : List X) (rest : List ℕ) → concat (map line xs ++ codes "]\n" ∷ []) ++ rest ≡ lines_then line xs (10 ∷ rest)
lines_joined line [] rest = refl
lines_joined line (x ∷ xs) rest = append_assoc (line x) (concat (map line xs ++ codes "]\n" ∷ [])) rest ∙ ap (λ t. line x ++ t) (lines_joined line xs rest)

then_long : {X : Type 0} (line : X → List ℕ) (xs : List X) (rest : List ℕ) → suc (length rest) ≤ length (lines_then line xs rest)
then_long line [] rest = omega arith
then_long line (x ∷ xs) rest = let more = then_long line xs rest in omega (arith, length-append (line x) (lines_then line xs rest))

ends_at_newline : (rest : List ℕ) → ends_line (skip_ws (10 ∷ rest)) ≡ true
ends_at_newline rest = rw (skip_ws_none (10 ∷ rest) refl) (grind (arith, nat_tests))

-- a line that begins with a key
line_read : (k t rest : List ℕ) (d : Data) → starts_value (first t) ≡ true → val 80 t ≡ Some (d, 10 ∷ rest) → line (written_key k ++ (codes " = " ++ t)) ≡ Some ((([], k), key_value d), 10 ∷ rest)
unfolding line expression
line_read k t rest d start read =
    let s = written_key k ++ (codes " = " ++ t) in
    let pair = keyval_ok (val 80) s t (10 ∷ rest) ([], k) d (key_equals-pair k t start) read in
    let key_first = is_key_start-key_text k (codes " = " ++ t) in
    let other : (first s == 91) ≡ false = grind (arith, nat_tests) in
    rw (other, pair, ends_at_newline rest) refl

array_text_read : {X : Type 0} (key : Key) (line : X → List ℕ) (holds : X → Data) (x : X) (xs : List X) → ((y : X) → In y (x ∷ xs) → LineIsRead 79 (line y) (holds y))
    → TextIsRead (key_text key) (concat (array_lines key (map line (x ∷ xs)))) (Some (array_of holds (x ∷ xs)))
array_text_read key line holds x xs reads rest =
    let body = lines_then line (x ∷ xs) (10 ∷ rest) in
    let t = 91 ∷ 10 ∷ body in
    let k = key_text key in
    let s = written_key k ++ (codes " = " ++ t) in
    let joined = concat (map line (x ∷ xs) ++ codes "]\n" ∷ []) in
    let same : ((k ++ codes " = [\n") ++ joined) ++ rest ≡ s =
    append_assoc (k ++ codes " = [\n") joined rest ∙ append_assoc k (codes " = [\n") (joined ++ rest) ∙ ap (λ u. k ++ (codes " = [\n" ++ u)) (lines_joined line (x ∷ xs) rest) ∙ ap (λ u. u ++ (codes " = " ++ t)) (sym (bare key)) in
    let key_first = is_key_start-key_text k (codes " = " ++ t) in
    let start : starts_value (first s) ≡ true = grind (arith, nat_tests) in
    let all = entries_read 79 line holds (x ∷ xs) (10 ∷ rest) no_items (length t) reads (omega arith) in
    let read : val 80 t ≡ Some (array_of holds (x ∷ xs), 10 ∷ rest) = val_array 79 t refl ∙ rw all refl in
    let key_size = length-append (written_key k) (codes " = " ++ t) in
    let body_size = then_long line (x ∷ xs) (10 ∷ rest) in
    rw same (s, skip_start s start, line_read k t rest (array_of holds (x ∷ xs)) refl read, omega (arith, key_size), omega (arith, key_size, body_size), grind (arith, nat_tests))

-- ---- entries

-- the line of an entry is read as its table, and is ASCII
abbrev GoodLine : List ℕ → Data → Type 0
GoodLine line d = LineIsRead 79 line d × IsAscii line

good_entry : (r : Row) (rs : List Row) → IsRead 78 r → AllRead 78 rs → AllNew (r ∷ rs) no_nodes → GoodLine (entry_line (map field_of_row (r ∷ rs))) (table_of (r ∷ rs))
good_entry r rs good more new = (entry_read 78 r rs good more new, entry_ascii 78 r rs good more)

side_is_name : (s : Side) → is_name_text (side_name s) ≡ true
side_is_name A = refl
side_is_name B = refl

tiny : (n most : ℕ) → n ≤ most → most < 4294967296 → n < 2 ^ 63
tiny n most l h = omega arith

module _ (d : Station) (admitted : is_admitted d ≡ true) where
  -- a name, a side and a number in an entry
  named_row : (key : Key) (s : List ℕ) → is_name_text s ≡ true → IsRead 78 (name_row key s)
  named_row key s h = name_is_read 78 key s h

  side_row : (key : Key) (s : Side) → IsRead 78 (name_row key (side_name s))
  side_row key s = name_is_read 78 key (side_name s) (side_is_name s)

  small_row : (key : Key) (n low high : ℕ) → is_from low high n ≡ true → high < 4294967296 → IsRead 78 (number_row key n)
  small_row key n low high h small = let r = ranged low high n h in number_is_read 78 key n (tiny n high r.1 small)

  visit_row : (key : Key) (t : TrainNo) (j : ℕ) → is_visit d t j ≡ true → IsRead 78 (number_row key j)
  visit_row key t j h = number_is_read 78 key j (tiny j 16 (visit_most d admitted t j h) (omega arith))

  visits_are_read : (visits : List (List NodeNo)) → list_all (is_good_set d) visits ≡ true → IsRead 78 (visits_row d visits)
  visits_are_read visits h =
      let there : (set : List NodeNo) → In set visits → (n : NodeNo) → In n set → is_name_text (node_name d n) ≡ true =
      λ set i n j. node_right d admitted n (list_all_at (is_node d) set n (set_parts d set (list_all_at (is_good_set d) visits set h i)).1 j) in
      let deep = array_depth (array_of (node_value d)) visits 1 (λ set. array_depth (node_value d) set 0 (λ n. omega arith)) in
      record {
        is_text = array_is_text (visit_text d) (array_of (node_value d)) visits (λ set i. array_is_text (λ n. in_quotes (node_name d n)) (node_value d) set (λ n j. name_is_text (node_name d n) (there set i n j)));
        shallow = omega arith;
        valid = array_dates (array_of (node_value d)) visits (λ set. array_dates (node_value d) set (λ n. refl));
        ascii = ascii_brackets (visit_text d) visits (λ set i. ascii_brackets (λ n. in_quotes (node_name d n)) set (λ n j. ascii_quotes (node_name d n) (ascii_name (node_name d n) (sym (same_name (node_name d n)) ∙ there set i n j))));
      }

  node_good : (x : Node) → In x d.nodes → GoodLine (node_line x) (node_table x)
  node_good x m = by_boundary x.boundary (named_row keys.Name x.name (name_right (λ (n : Node). n.name) d.nodes x (are_all_names (node_names d) (named d admitted).0) m))
    where
      by_boundary : (b : Bool) → IsRead 78 (name_row keys.Name x.name)
          → GoodLine (if b then entry_line ((keys.Name, in_quotes x.name) ∷ (keys.Boundary, codes "true") ∷ []) else entry_line ((keys.Name, in_quotes x.name) ∷ [])) (table_of (name_row keys.Name x.name ∷ node_more b))
      by_boundary true good = good_entry (name_row keys.Name x.name) (true_row keys.Boundary ∷ []) good (true_is_read 78 keys.Boundary, tt) (refl, (refl, tt))
      by_boundary false good = good_entry (name_row keys.Name x.name) [] good tt (refl, tt)

  edge_good : (x : Edge) → In x d.edges → GoodLine (edge_line d x) (edge_table d x)
  edge_good x m =
      let f = edge_parts d x (good_edge d admitted x m) in
      good_entry (name_row keys.Name x.name) (edge_more d x)
      (named_row keys.Name x.name (name_right (λ (e : Edge). e.name) d.edges x (are_all_names (edge_names d) (named d admitted).1) m)) (
        named_row keys.From (node_name d x.from.node) (node_right d admitted x.from.node f.0),
        (
          side_row keys.FromSide x.from.side,
          (
            named_row keys.To (node_name d x.to.node) (node_right d admitted x.to.node f.1),
            (
              side_row keys.ToSide x.to.side,
              (small_row keys.LengthMm x.length_mm 1 10000000 f.3 (omega arith), (small_row keys.SpeedMmS x.speed_mm_s 1 100000 f.4 (omega arith), (named_row keys.Section (section_name d x.section) (section_right d admitted x.section f.6), tt))),
            ),
          ),
        ),
      )
      (refl, (refl, (refl, (refl, (refl, (refl, (refl, (refl, tt))))))))

  signal_good : (x : Signal) → In x d.signals → GoodLine (signal_line d x) (signal_table d x)
  signal_good x m =
      good_entry (name_row keys.Name x.name) (signal_more d x)
      (named_row keys.Name x.name (name_right (λ (s : Signal). s.name) d.signals x (are_all_names (signal_names d) (named d admitted).3) m))
      (named_row keys.Node (node_name d x.node) (node_right d admitted x.node (signal_parts d x (good_signal d admitted x m)).0), (side_row keys.Toward x.toward, tt))
      (refl, (refl, (refl, tt)))

  vehicle_good : (x : Vehicle) → In x d.vehicles → GoodLine (vehicle_line x) (vehicle_table x)
  vehicle_good x m =
      let f = vehicle_parts d x (good_vehicle d admitted x m) in
      good_entry (name_row keys.Name x.name) (vehicle_more x)
      (named_row keys.Name x.name (name_right (λ (v : Vehicle). v.name) d.vehicles x (are_all_names (vehicle_names d) (named d admitted).4) m))
      (small_row keys.LengthMm x.length_mm 1 2000000 f.0 (omega arith), (small_row keys.AccelMmS2 x.accel_mm_s2 1 100000 f.1 (omega arith), (small_row keys.BrakeMmS2 x.brake_mm_s2 1 100000 f.2 (omega arith), (small_row keys.SpeedMmS x.speed_mm_s 1 100000 f.3 (omega arith), tt))))
      (refl, (refl, (refl, (refl, (refl, tt)))))

  train_good : (x : Train) → In x d.trains → GoodLine (train_line d x) (train_table d x)
  train_good x m = by_version (nat_le 3 d.version)
    where
      name_good : IsRead 78 (name_row keys.Name x.name)
      name_good = named_row keys.Name x.name (name_right (λ (t : Train). t.name) d.trains x (are_all_names (train_names d) (named d admitted).5) m)

      vehicle_good : IsRead 78 (name_row keys.Vehicle (vehicle_at d x.vehicle).name)
      vehicle_good = named_row keys.Vehicle (vehicle_at d x.vehicle).name (vehicle_right d admitted x.vehicle (train_parts d x (good_train d admitted x m)).0)

      visits_good : IsRead 78 (visits_row d x.visits)
      visits_good = visits_are_read x.visits (train_parts d x (good_train d admitted x m)).2

      dwells_good : IsRead 78 (numbers_row keys.DwellMs x.dwell_ms)
      dwells_good = numbers_are_read 78 keys.DwellMs x.dwell_ms (omega arith) (λ ms i. tiny ms 3600000 (dwell_most d admitted x m ms i) (omega arith))

      by_version : (b : Bool)
          → GoodLine (entry_line ((keys.Name, in_quotes x.name) ∷ (keys.Vehicle, in_quotes (vehicle_at d x.vehicle).name) ∷ (keys.Visits, in_brackets (map (visit_text d) x.visits)) ∷ (if b then (keys.DwellMs, in_brackets (map decimal x.dwell_ms)) ∷ [] else []))) (table_of (name_row keys.Name x.name ∷ name_row keys.Vehicle (vehicle_at d x.vehicle).name ∷ visits_row d x.visits ∷ dwell_more b x.dwell_ms))
      by_version true =
          good_entry (name_row keys.Name x.name) (name_row keys.Vehicle (vehicle_at d x.vehicle).name ∷ visits_row d x.visits ∷ numbers_row keys.DwellMs x.dwell_ms ∷ []) name_good
          (vehicle_good, (visits_good, (dwells_good, tt))) (refl, (refl, (refl, (refl, tt))))
      by_version false =
          good_entry (name_row keys.Name x.name) (name_row keys.Vehicle (vehicle_at d x.vehicle).name ∷ visits_row d x.visits ∷ []) name_good
          (vehicle_good, (visits_good, tt)) (refl, (refl, (refl, tt)))

  order_good : (x : Order) → In x d.orders → GoodLine (order_line d x) (order_table d x)
  order_good x m =
      let f = order_parts d x (good_order d admitted x m) in
      good_entry (name_row keys.FirstTrain (train_name d x.first_train)) (order_more d x)
      (named_row keys.FirstTrain (train_name d x.first_train) (train_right d admitted x.first_train x.first_visit f.0))
      (visit_row keys.FirstVisit x.first_train x.first_visit f.0, (named_row keys.ThenTrain (train_name d x.then_train) (train_right d admitted x.then_train x.then_visit f.1), (visit_row keys.ThenVisit x.then_train x.then_visit f.1, tt)))
      (refl, (refl, (refl, (refl, tt))))

  within_good : (x : Within) → In x d.withins → GoodLine (within_line d x) (within_table d x)
  within_good x m =
      let f = within_parts d x (good_within d admitted x m) in
      good_entry (name_row keys.FromTrain (train_name d x.from_train)) (within_more d x)
      (named_row keys.FromTrain (train_name d x.from_train) (train_right d admitted x.from_train x.from_visit f.0)) (
        visit_row keys.FromVisit x.from_train x.from_visit f.0,
        (
          named_row keys.ToTrain (train_name d x.to_train) (train_right d admitted x.to_train x.to_visit f.1),
          (
            visit_row keys.ToVisit x.to_train x.to_visit f.1,
            (number_is_read 78 keys.MaxMs x.max_ms (tiny x.max_ms 86400000 (leb-true x.max_ms 86400000 f.2) (omega arith)), tt),
          ),
        ),
      )
      (refl, (refl, (refl, (refl, (refl, tt)))))

  sections_are_read : (sections : List SectionNo) → list_all (is_section d) sections ≡ true → IsRead 78 (sections_row d sections)
  sections_are_read sections h =
      let there : (z : SectionNo) → In z sections → is_name_text (section_name d z) ≡ true = λ z i. section_right d admitted z (list_all_at (is_section d) sections z h i) in
      let deep = array_depth (section_value d) sections 0 (λ z. omega arith) in
      record {
        is_text = array_is_text (λ z. in_quotes (section_name d z)) (section_value d) sections (λ z i. name_is_text (section_name d z) (there z i));
        shallow = omega arith;
        valid = array_dates (section_value d) sections (λ z. refl);
        ascii = ascii_brackets (λ z. in_quotes (section_name d z)) sections (λ z i. ascii_quotes (section_name d z) (ascii_name (section_name d z) (sym (same_name (section_name d z)) ∙ there z i)));
      }

  overlap_good : (x : Overlap) → In x d.overlaps → GoodLine (overlap_line d x) (overlap_table d x)
  overlap_good x m =
      let f = overlap_parts d x (good_overlap d admitted x m) in
      good_entry (name_row keys.Signal (signal_name d x.signal)) (overlap_more d x)
      (named_row keys.Signal (signal_name d x.signal) (signal_right d admitted x.signal f.0))
      (sections_are_read x.sections f.2, (number_is_read 78 keys.HoldMs x.hold_ms (tiny x.hold_ms 600000 (leb-true x.hold_ms 600000 f.3) (omega arith)), tt))
      (refl, (refl, (refl, tt)))

-- ---- the document

-- a part is read, and is ASCII
abbrev GoodPart : Part → Type 0
GoodPart p = PartIsRead p × IsAscii p.text

abbrev GoodParts : List Part → Type 0
GoodParts [] = Unit {0}
GoodParts (p ∷ ps) = GoodPart p × GoodParts ps

good_at : (ps : List Part) (q : Part) → GoodParts ps → In q ps → GoodPart q
good_at [] q good m = absurd m
good_at (p ∷ ps) q good (inl e) = subst GoodPart e good.0
good_at (p ∷ ps) q good (inr m) = good_at ps q good.1 m

parts_ascii : (ps : List Part) → GoodParts ps → IsAscii (parts_text ps)
parts_ascii [] good = ascii_none
parts_ascii (p ∷ ps) good = IsAscii-append p.text (parts_text ps) good.0.1 (parts_ascii ps good.1)

number_good : (key : Key) (n most : ℕ) → n ≤ most → most < 4294967296 → GoodPart (number_part key n)
number_good key n most l h = (number_read key n (tiny n most l h), ascii_number key n (omega arith))

array_good : {X : Type 0} (key : Key) (line : X → List ℕ) (holds : X → Data) (xs : List X) → ((x : X) → In x xs → GoodLine (line x) (holds x)) → GoodPart (array_part key line holds xs)
array_good key line holds [] good = (refl, ascii_none)
array_good key line holds (x ∷ xs) good = (array_text_read key line holds x xs (λ y m. (good y m).0), ascii_array line key (x ∷ xs) (λ y m. (good y m).1))

-- the text in parts
all_joined : (x y z : List ℕ) (a b c d e f g h : List (List ℕ))
    → concat ((x ∷ y ∷ z ∷ a) ++ (b ++ (c ++ (d ++ (e ++ (f ++ (g ++ h))))))) ≡ x ++ (y ++ (z ++ (concat a ++ (concat b ++ (concat c ++ (concat d ++ (concat e ++ (concat f ++ (concat g ++ (concat h ++ []))))))))))
all_joined x y z a b c d e f g h =
    ap (λ t. x ++ (y ++ (z ++ t))) (concat-append a (b ++ (c ++ (d ++ (e ++ (f ++ (g ++ h))))))
    ∙ ap (λ t. concat a ++ t) (concat-append b (c ++ (d ++ (e ++ (f ++ (g ++ h)))))
    ∙ ap (λ t. concat b ++ t) (concat-append c (d ++ (e ++ (f ++ (g ++ h))))
    ∙ ap (λ t. concat c ++ t) (concat-append d (e ++ (f ++ (g ++ h)))
    ∙ ap (λ t. concat d ++ t) (concat-append e (f ++ (g ++ h))
    ∙ ap (λ t. concat e ++ t) (concat-append f (g ++ h)
    ∙ ap (λ t. concat f ++ t) (concat-append g h
    ∙ ap (λ t. concat g ++ t) (sym (append-nil (concat h))))))))))

module _ (d : Station) (admitted : is_admitted d ≡ true) where
  all_good : GoodParts (first_part d ∷ more_parts d)
  all_good =
      let version = ranged 1 4 d.version (timed d admitted).0 in
      let tick = ranged 100 1000 d.tick_ms (timed d admitted).1 in (
        number_good keys.Version d.version 4 version.1 (omega arith),
        (
          number_good keys.TickMs d.tick_ms 1000 tick.1 (omega arith),
          (
            number_good keys.HorizonMs d.horizon_ms 86401000 (horizon_most d admitted) (omega arith),
            (
              array_good keys.Node node_line node_table d.nodes (node_good d admitted),
              (
                array_good keys.Edge (edge_line d) (edge_table d) d.edges (edge_good d admitted),
                (
                  array_good keys.Signal (signal_line d) (signal_table d) d.signals (signal_good d admitted),
                  (
                    array_good keys.Vehicle vehicle_line vehicle_table d.vehicles (vehicle_good d admitted),
                    (
                      array_good keys.Train (train_line d) (train_table d) d.trains (train_good d admitted),
                      (
                        array_good keys.Order (order_line d) (order_table d) d.orders (order_good d admitted),
                        (
                          array_good keys.Within (within_line d) (within_table d) d.withins (within_good d admitted),
                          (array_good keys.Overlap (overlap_line d) (overlap_table d) d.overlaps (overlap_good d admitted), tt),
                        ),
                      ),
                    ),
                  ),
                ),
              ),
            ),
          ),
        ),
      )

  pub text_parts : design_text d ≡ parts_text (first_part d ∷ more_parts d)
  unfolding design_lines
  text_parts =
      all_joined (number_line keys.Version d.version) (number_line keys.TickMs d.tick_ms) (number_line keys.HorizonMs d.horizon_ms)
      (array_lines keys.Node (map node_line d.nodes)) (array_lines keys.Edge (map (edge_line d) d.edges)) (array_lines keys.Signal (map (signal_line d) d.signals))
      (array_lines keys.Vehicle (map vehicle_line d.vehicles)) (array_lines keys.Train (map (train_line d) d.trains)) (array_lines keys.Order (map (order_line d) d.orders)) (array_lines keys.Within (map (within_line d) d.withins)) (array_lines keys.Overlap (map (overlap_line d) d.overlaps))

  pub text_read : toml_of (design_text d) ≡ Some (document d)
  unfolding document
  text_read =
      let parts = first_part d ∷ more_parts d in
      let good = all_good in
      let parsed = document_read (first_part d) (more_parts d) (integer (pos d.version)) refl (λ q m. (good_at parts q good m).0) refl in
      ap toml_of text_parts ∙ toml_found (parts_text parts) (document d) (IsUtf8-from_ascii (parts_text parts) (parts_ascii parts good)) parsed
