-- The text of an admitted design has no more bytes than a file of a design may have.
use Rattle.std.proofs.Common.{◌≡◌, ℕ, ◌+◌, ◌*◌, ◌<◌, ◌≤◌, ◌&&◌, nat_le, Bool, true, false, inl, inr, List, [], ◌∷◌, ◌++◌, length, map, codes, decimal, if◌then◌else◌, refl, ap, ◌∙◌, arith, length-append, leb-true}
use Rattle.std.proofs.Math.Nat.{mul-le-mul}
use Rattle.std.proofs.lemmas.Fmt.{length-decimal-le}
use Rattle.std.specs.List.{concat, flat_map, list_all}
use Rattle.design_table.specs.declared.key.Key.{Key}
use Rattle.design_table.specs.declared.key.Key.TheVariants as keys
use Rattle.design_table.specs.Keys.{key_text}
use Rattle.design_table.specs.Forms.{is_name_byte, is_name_text}
use Rattle.rail_base.specs.Members.{In}
use Rattle.rail_base.specs.Names.{node_name, section_name, signal_name, train_name}
use Rattle.rail_base.specs.Stations.{vehicle_at}
use Rattle.rail_base.specs.Admission.{is_from, is_node, is_visit, is_good_set, is_admitted}
use Rattle.rail_base.specs.declared.station.Station.{Station}
use Rattle.rail_base.specs.declared.station.Node.{Node}
use Rattle.rail_base.specs.declared.station.Edge.{Edge}
use Rattle.rail_base.specs.declared.station.Signal.{Signal}
use Rattle.rail_base.specs.declared.station.Vehicle.{Vehicle}
use Rattle.rail_base.specs.declared.station.Train.{Train}
use Rattle.rail_base.specs.declared.station.Order.{Order}
use Rattle.rail_base.specs.declared.station.Within.{Within}
use Rattle.rail_base.specs.declared.station.Overlap.{Overlap}
use Rattle.rail_base.specs.declared.station.NodeNo.{NodeNo}
use Rattle.rail_base.specs.declared.station.SectionNo.{SectionNo}
use Rattle.rail_base.specs.declared.station.TrainNo.{TrainNo}
use Rattle.rail_base.specs.declared.station.Side.{Side}
use Rattle.rail_base.specs.declared.station.Side.TheVariants.{A, B}
use Rattle.rail_base.proofs.Members.{and_left, and_right, list_all_at}
use Rattle.design_text.specs.Laws.{TextsAreShort}
use Rattle.design_text.specs.Texts.{behind_comma, joined, in_quotes, in_brackets, side_name, field_text, entry_line, array_lines, number_line, visit_text, sections_text, node_line, edge_line, signal_line, vehicle_line, train_line, order_line, within_line, overlap_line}
use Rattle.design_text.proofs.ReadEntries.{Row, field_of_row}
use Rattle.design_text.proofs.Parts.{Part, parts_text}
use Rattle.design_text.proofs.Documents.{name_row, true_row, edge_more, signal_more, vehicle_more, visits_row, numbers_row, order_more, within_more, overlap_more, first_part, more_parts}
use Rattle.design_text.proofs.Admitting.{ranged, are_all_names, node_names, edge_names, signal_names, vehicle_names, train_names, few, timed, named, edge_parts, vehicle_parts, train_parts, signal_parts, set_parts, order_parts, within_parts, overlap_parts, overlaps_most, is_section, good_edge, good_signal, good_vehicle, good_train, dwell_most, dwell_count, good_order, good_within, good_overlap}
use Rattle.design_text.proofs.Spelling.{name_right, node_right, section_right, signal_right, vehicle_right, train_right}
use Rattle.design_text.proofs.Returning.{visit_most, horizon_most}
use Rattle.design_text.proofs.ReadTexts.{text_parts}

-- ---- pieces

name_short : (s : List ℕ) → is_name_text s ≡ true → length (in_quotes s) ≤ 34
name_short s h =
    let most = leb-true (length s) 32 (and_right (nat_le 1 (length s)) (nat_le (length s) 32) (and_left (nat_le 1 (length s) && nat_le (length s) 32) (list_all is_name_byte s) h)) in
    omega (arith, most, length-append s (codes "\""))

side_short : (s : Side) → length (in_quotes (side_name s)) ≤ 34
side_short A = omega arith
side_short B = omega arith

number_short : (n most : ℕ) → n ≤ most → most < 100000000 → length (decimal n) ≤ 8
number_short n most l h = length-decimal-le 8 n (omega arith) (omega arith) (omega arith)

-- texts in a row, none of which is longer than this
module _ {X : Type 0} (text : X → List ℕ) (most : ℕ) where
  more_short : (xs : List X) → ((x : X) → In x xs → length (text x) ≤ most) → length (flat_map behind_comma (map text xs)) ≤ length xs * (most + 2)
  more_short [] each = omega arith
  more_short (x ∷ xs) each =
      let here = each x (inl refl) in
      let more = more_short xs (λ y i. each y (inr i)) in
      omega (arith, here, more, length-append (behind_comma (text x)) (flat_map behind_comma (map text xs)))

  row_short : (xs : List X) → ((x : X) → In x xs → length (text x) ≤ most) → length (in_brackets (map text xs)) ≤ 2 + length xs * (most + 2)
  row_short [] each = omega arith
  row_short (x ∷ xs) each =
      let here = each x (inl refl) in
      let more = more_short xs (λ y i. each y (inr i)) in
      omega (arith, here, more, length-append (text x) (flat_map behind_comma (map text xs)), length-append (joined (map text (x ∷ xs))) (codes "]"))

  lines_short : (xs : List X) → ((x : X) → In x xs → length (text x) ≤ most) → length (concat (map text xs ++ codes "]\n" ∷ [])) ≤ 2 + length xs * most
  lines_short [] each = omega arith
  lines_short (x ∷ xs) each =
      let here = each x (inl refl) in
      let more = lines_short xs (λ y i. each y (inr i)) in
      omega (arith, here, more, length-append (text x) (concat (map text xs ++ codes "]\n" ∷ [])))

  array_short : (key : Key) (xs : List X) → ((x : X) → In x xs → length (text x) ≤ most) → length (concat (array_lines key (map text xs))) ≤ length (key_text key) + 7 + length xs * most
  array_short key [] each = omega arith
  array_short key (x ∷ xs) each =
      let all = lines_short (x ∷ xs) each in
      omega (arith, all, length-append (key_text key) (codes " = [\n"), length-append (key_text key ++ codes " = [\n") (concat (map text (x ∷ xs) ++ codes "]\n" ∷ [])))

-- ---- entries

abbrev rows_length : List Row → ℕ
rows_length [] = 0
rows_length (r ∷ rs) = length (key_text r.at) + 3 + length r.text + rows_length rs

field_length : (r : Row) → length (field_text (field_of_row r)) ≡ length (key_text r.at) + 1 + length r.text
field_length r = length-append (key_text r.at) (codes "=" ++ r.text) ∙ omega arith

fields_length : (rs : List Row) → length (flat_map behind_comma (map field_text (map field_of_row rs))) ≡ rows_length rs
fields_length [] = refl
fields_length (r ∷ rs) =
    let more = fields_length rs in
    let here = field_length r in
    omega (arith, more, here, length-append (behind_comma (field_text (field_of_row r))) (flat_map behind_comma (map field_text (map field_of_row rs))))

entry_length : (r : Row) (rs : List Row) → length (entry_line (map field_of_row (r ∷ rs))) ≤ 5 + rows_length (r ∷ rs)
entry_length r rs =
    let f = field_text (field_of_row r) in
    let tail = flat_map behind_comma (map field_text (map field_of_row rs)) in
    let here = field_length r in
    let more = fields_length rs in
    omega (arith, here, more, length-append f tail, length-append (f ++ tail) (codes "},\n"))

module _ (d : Station) (admitted : is_admitted d ≡ true) where
  node_short : (x : Node) → In x d.nodes → length (node_line x) ≤ 80
  node_short x m = by_boundary x.boundary (name_short x.name (name_right (λ (n : Node). n.name) d.nodes x (are_all_names (node_names d) (named d admitted).0) m))
    where
      by_boundary : (b : Bool) → length (in_quotes x.name) ≤ 34 → length (if b then entry_line ((keys.Name, in_quotes x.name) ∷ (keys.Boundary, codes "true") ∷ []) else entry_line ((keys.Name, in_quotes x.name) ∷ [])) ≤ 80
      by_boundary true h = let whole = entry_length (name_row keys.Name x.name) (true_row keys.Boundary ∷ []) in omega (arith, h, whole)
      by_boundary false h = let whole = entry_length (name_row keys.Name x.name) [] in omega (arith, h, whole)

  edge_short : (x : Edge) → In x d.edges → length (edge_line d x) ≤ 400
  edge_short x m =
      let f = edge_parts d x (good_edge d admitted x m) in
      let whole = entry_length (name_row keys.Name x.name) (edge_more d x) in
      let a = name_short x.name (name_right (λ (e : Edge). e.name) d.edges x (are_all_names (edge_names d) (named d admitted).1) m) in
      let b = name_short (node_name d x.from.node) (node_right d admitted x.from.node f.0) in
      let c = side_short x.from.side in
      let e = name_short (node_name d x.to.node) (node_right d admitted x.to.node f.1) in
      let g = side_short x.to.side in
      let h = number_short x.length_mm 10000000 (ranged 1 10000000 x.length_mm f.3).1 (omega arith) in
      let i = number_short x.speed_mm_s 100000 (ranged 1 100000 x.speed_mm_s f.4).1 (omega arith) in
      let j = name_short (section_name d x.section) (section_right d admitted x.section f.6) in
      omega (arith, whole, a, b, c, e, g, h, i, j)

  signal_short : (x : Signal) → In x d.signals → length (signal_line d x) ≤ 200
  signal_short x m =
      let whole = entry_length (name_row keys.Name x.name) (signal_more d x) in
      let a = name_short x.name (name_right (λ (s : Signal). s.name) d.signals x (are_all_names (signal_names d) (named d admitted).3) m) in
      let b = name_short (node_name d x.node) (node_right d admitted x.node (signal_parts d x (good_signal d admitted x m)).0) in
      let c = side_short x.toward in
      omega (arith, whole, a, b, c)

  vehicle_short : (x : Vehicle) → In x d.vehicles → length (vehicle_line x) ≤ 200
  vehicle_short x m =
      let f = vehicle_parts d x (good_vehicle d admitted x m) in
      let whole = entry_length (name_row keys.Name x.name) (vehicle_more x) in
      let a = name_short x.name (name_right (λ (v : Vehicle). v.name) d.vehicles x (are_all_names (vehicle_names d) (named d admitted).4) m) in
      let b = number_short x.length_mm 2000000 (ranged 1 2000000 x.length_mm f.0).1 (omega arith) in
      let c = number_short x.accel_mm_s2 100000 (ranged 1 100000 x.accel_mm_s2 f.1).1 (omega arith) in
      let e = number_short x.brake_mm_s2 100000 (ranged 1 100000 x.brake_mm_s2 f.2).1 (omega arith) in
      let g = number_short x.speed_mm_s 100000 (ranged 1 100000 x.speed_mm_s f.3).1 (omega arith) in
      omega (arith, whole, a, b, c, e, g)

  visit_short : (set : List NodeNo) → is_good_set d set ≡ true → length (visit_text d set) ≤ 2306
  visit_short set good =
      let f = set_parts d set good in
      let most = (ranged 1 64 (length set) f.0).1 in
      let row = row_short (λ n. in_quotes (node_name d n)) 34 set (λ n i. name_short (node_name d n) (node_right d admitted n (list_all_at (is_node d) set n f.1 i))) in
      omega (arith, most, row)

  visits_short : (x : Train) → In x d.trains → length (in_brackets (map (visit_text d) x.visits)) ≤ 36930
  visits_short x m =
      let f = train_parts d x (good_train d admitted x m) in
      let most = (ranged 1 16 (length x.visits) f.1).1 in
      let row = row_short (visit_text d) 2306 x.visits (λ set i. visit_short set (list_all_at (is_good_set d) x.visits set f.2 i)) in
      omega (arith, most, row)

  dwells_short : (x : Train) → In x d.trains → length (in_brackets (map decimal x.dwell_ms)) ≤ 162
  dwells_short x m =
      let f = train_parts d x (good_train d admitted x m) in
      let most = (ranged 1 16 (length x.visits) f.1).1 in
      let count = dwell_count d admitted x m in
      let row = row_short decimal 8 x.dwell_ms (λ ms i. number_short ms 3600000 (dwell_most d admitted x m ms i) (omega arith)) in
      omega (arith, most, count, row)

  train_short : (x : Train) → In x d.trains → length (train_line d x) ≤ 37300
  train_short x m = by_version (nat_le 3 d.version)
    where
      short : (rows : List Row) → rows_length rows ≤ 173 → length (entry_line (map field_of_row (name_row keys.Name x.name ∷ name_row keys.Vehicle (vehicle_at d x.vehicle).name ∷ visits_row d x.visits ∷ rows))) ≤ 37300
      short rows h =
          let f = train_parts d x (good_train d admitted x m) in
          let whole = entry_length (name_row keys.Name x.name) (name_row keys.Vehicle (vehicle_at d x.vehicle).name ∷ visits_row d x.visits ∷ rows) in
          let a = name_short x.name (name_right (λ (t : Train). t.name) d.trains x (are_all_names (train_names d) (named d admitted).5) m) in
          let b = name_short (vehicle_at d x.vehicle).name (vehicle_right d admitted x.vehicle f.0) in
          let c = visits_short x m in
          omega (arith, whole, a, b, c, h)

      by_version : (b : Bool) → length (entry_line ((keys.Name, in_quotes x.name) ∷ (keys.Vehicle, in_quotes (vehicle_at d x.vehicle).name) ∷ (keys.Visits, in_brackets (map (visit_text d) x.visits)) ∷ (if b then (keys.DwellMs, in_brackets (map decimal x.dwell_ms)) ∷ [] else []))) ≤ 37300
      by_version true = let most = dwells_short x m in short (numbers_row keys.DwellMs x.dwell_ms ∷ []) (omega (arith, most))
      by_version false = short [] (omega arith)

  visit_number : (t : TrainNo) (j : ℕ) → is_visit d t j ≡ true → length (decimal j) ≤ 8
  visit_number t j h = number_short j 16 (visit_most d admitted t j h) (omega arith)

  order_short : (x : Order) → In x d.orders → length (order_line d x) ≤ 300
  order_short x m =
      let f = order_parts d x (good_order d admitted x m) in
      let whole = entry_length (name_row keys.FirstTrain (train_name d x.first_train)) (order_more d x) in
      let a = name_short (train_name d x.first_train) (train_right d admitted x.first_train x.first_visit f.0) in
      let b = name_short (train_name d x.then_train) (train_right d admitted x.then_train x.then_visit f.1) in
      let c = visit_number x.first_train x.first_visit f.0 in
      let e = visit_number x.then_train x.then_visit f.1 in
      omega (arith, whole, a, b, c, e)

  within_short : (x : Within) → In x d.withins → length (within_line d x) ≤ 300
  within_short x m =
      let f = within_parts d x (good_within d admitted x m) in
      let whole = entry_length (name_row keys.FromTrain (train_name d x.from_train)) (within_more d x) in
      let a = name_short (train_name d x.from_train) (train_right d admitted x.from_train x.from_visit f.0) in
      let b = name_short (train_name d x.to_train) (train_right d admitted x.to_train x.to_visit f.1) in
      let c = visit_number x.from_train x.from_visit f.0 in
      let e = visit_number x.to_train x.to_visit f.1 in
      let g = number_short x.max_ms 86400000 (leb-true x.max_ms 86400000 f.2) (omega arith) in
      omega (arith, whole, a, b, c, e, g)

  sections_short : (sections : List SectionNo) → is_from 1 16 (length sections) ≡ true → list_all (is_section d) sections ≡ true → length (sections_text d sections) ≤ 578
  sections_short sections few_of there =
      let most = (ranged 1 16 (length sections) few_of).1 in
      let row = row_short (λ z. in_quotes (section_name d z)) 34 sections (λ z i. name_short (section_name d z) (section_right d admitted z (list_all_at (is_section d) sections z there i))) in
      omega (arith, most, row)

  overlap_short : (x : Overlap) → In x d.overlaps → length (overlap_line d x) ≤ 700
  overlap_short x m =
      let f = overlap_parts d x (good_overlap d admitted x m) in
      let whole = entry_length (name_row keys.Signal (signal_name d x.signal)) (overlap_more d x) in
      let a = name_short (signal_name d x.signal) (signal_right d admitted x.signal f.0) in
      let b = sections_short x.sections f.1 f.2 in
      let c = number_short x.hold_ms 600000 (leb-true x.hold_ms 600000 f.3) (omega arith) in
      omega (arith, whole, a, b, c)

-- ---- the text

line_length : (key : Key) (n most : ℕ) → n ≤ most → most < 100000000 → length (number_line key n) ≤ length (key_text key) + 12
line_length key n most l h =
    let digits = number_short n most l h in
    omega (arith, digits, length-append (key_text key) (codes " = " ++ (decimal n ++ codes "\n")), length-append (decimal n) (codes "\n"))

abbrev parts_length : List Part → ℕ
parts_length [] = 0
parts_length (p ∷ ps) = length p.text + parts_length ps

all_parts : (ps : List Part) → length (parts_text ps) ≡ parts_length ps
all_parts [] = refl
all_parts (p ∷ ps) = length-append p.text (parts_text ps) ∙ ap (λ n. length p.text + n) (all_parts ps)

so_many : (n many most : ℕ) → n ≤ many → n * most ≤ many * most
so_many n many most h = mul-le-mul h (omega arith)

pub texts_are_short : TextsAreShort
texts_are_short d admitted =
    let f = few d admitted in
    let v = ranged 1 4 d.version (timed d admitted).0 in
    let t = ranged 100 1000 d.tick_ms (timed d admitted).1 in
    let trains = ranged 1 128 (length d.trains) f.4 in
    let l1 = line_length keys.Version d.version 4 v.1 (omega arith) in
    let l2 = line_length keys.TickMs d.tick_ms 1000 t.1 (omega arith) in
    let l3 = line_length keys.HorizonMs d.horizon_ms 86401000 (horizon_most d admitted) (omega arith) in
    let a1 = array_short node_line 80 keys.Node d.nodes (node_short d admitted) in
    let a2 = array_short (edge_line d) 400 keys.Edge d.edges (edge_short d admitted) in
    let a3 = array_short (signal_line d) 200 keys.Signal d.signals (signal_short d admitted) in
    let a4 = array_short vehicle_line 200 keys.Vehicle d.vehicles (vehicle_short d admitted) in
    let a5 = array_short (train_line d) 37300 keys.Train d.trains (train_short d admitted) in
    let a6 = array_short (order_line d) 300 keys.Order d.orders (order_short d admitted) in
    let a7 = array_short (within_line d) 300 keys.Within d.withins (within_short d admitted) in
    let a8 = array_short (overlap_line d) 700 keys.Overlap d.overlaps (overlap_short d admitted) in
    let n8 = overlaps_most d admitted in
    let n1 = leb-true (length d.nodes) 2000 f.0 in
    let n2 = leb-true (length d.edges) 4000 f.1 in
    let n3 = leb-true (length d.signals) 1000 f.2 in
    let n4 = leb-true (length d.vehicles) 64 f.3 in
    let n6 = leb-true (length d.orders) 256 f.5 in
    let n7 = leb-true (length d.withins) 256 f.6 in
    let whole = ap length (text_parts d admitted) ∙ all_parts (first_part d ∷ more_parts d) in
    omega (arith, whole, l1, l2, l3, a1, a2, a3, a4, a5, a6, a7, a8, n1, n2, n3, n4, trains.1, n6, n7, n8)
