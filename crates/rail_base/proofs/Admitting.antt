-- A design that passes the test is admitted.
use Rattle.std.proofs.Common.{◌≡◌, ℕ, zero, suc, ◌+◌, ◌≤◌, ◌<◌, ◌⊎◌, inl, inr, Bool, true, false, not, ◌&&◌, ◌||◌, ◌==◌, nat_le, List, [], ◌∷◌, map, length, refl, sym, ap, subst, ◌∙◌, arith, leb-true, eqb-true, eq-eqb, true≢false}
use Rattle.std.specs.Prelude.{bytes_eq}
use Rattle.std.specs.List.{list_all}
use Rattle.rail_base.specs.declared.station.Station.{Station}
use Rattle.rail_base.specs.declared.station.Edge.{Edge}
use Rattle.rail_base.specs.declared.station.Node.{Node}
use Rattle.rail_base.specs.declared.station.Signal.{Signal}
use Rattle.rail_base.specs.declared.station.Vehicle.{Vehicle}
use Rattle.rail_base.specs.declared.station.Train.{Train}
use Rattle.rail_base.specs.declared.station.Order.{Order}
use Rattle.rail_base.specs.declared.station.Within.{Within}
use Rattle.rail_base.specs.declared.station.Overlap.{Overlap}
use Rattle.rail_base.specs.declared.station.Side.{Side}
use Rattle.rail_base.specs.declared.station.Side.TheVariants.{A, B}
use Rattle.rail_base.specs.declared.station.NodeNo.{NodeNo}
use Rattle.rail_base.specs.declared.station.SectionNo.{SectionNo}
use Rattle.rail_base.specs.declared.station.SignalNo.{SignalNo}
use Rattle.rail_base.specs.declared.station.TrainNo.{TrainNo}
use Rattle.rail_base.specs.Numbering.{entry, one_to}
use Rattle.rail_base.specs.Members.{In, Pairs, all_pairs}
use Rattle.rail_base.specs.Stations.{is_side, node_of, edge_of, signal_of, vehicle_at, no_train, train_of, first_visit, per_tick_speed, per_tick_accel, horizon, longest_dwell, most_overlaps, IsSignal, HasVisit}
use Rattle.rail_base.specs.Admitted.{IsAdmitted, IsGoodNode, IsGoodEdge, IsGoodSignal, IsGoodVehicle, IsGoodTrain, IsGoodOrder, IsGoodWithin, IsGoodOverlap, Ranges, ends_a, ends_b}
use Rattle.rail_base.specs.Admission.{is_from, is_name, are_names, is_node, is_vehicle, is_visit, is_good_node, is_good_edge, are_numbered, is_good_signal, are_apart, is_good_vehicle, is_good_set, are_good_dwells, is_good_train, is_good_order, is_good_within, is_good_overlap, are_few, is_timed, are_named, is_sound_track, is_sound_traffic, are_sound_overlaps, is_admitted}
use Rattle.rail_base.proofs.Members.{and_left, and_right, list_all_at, below_or_not}
use Rattle.rail_base.proofs.Lists.{in_map, in_count, in_entry}

-- ---- parts of tests

two : (a b : Bool) → (a && b) ≡ true → (a ≡ true) × (b ≡ true)
two a b h = (and_left a b h, and_right a b h)

three : (a b c : Bool) → (a && b && c) ≡ true → (a ≡ true) × (b ≡ true) × (c ≡ true)
three a b c h = let f = two (a && b) c h in let g = two a b f.0 in (g.0, g.1, f.1)

four : (a b c d : Bool) → (a && b && c && d) ≡ true → (a ≡ true) × (b ≡ true) × (c ≡ true) × (d ≡ true)
four a b c d h = let f = two (a && b && c) d h in let g = three a b c f.0 in (g.0, g.1, g.2, f.1)

five : (a b c d e : Bool) → (a && b && c && d && e) ≡ true → (a ≡ true) × (b ≡ true) × (c ≡ true) × (d ≡ true) × (e ≡ true)
five a b c d e h = let f = two (a && b && c && d) e h in let g = four a b c d f.0 in (g.0, g.1, g.2, g.3, f.1)

seven : (a b c d e f g : Bool) → (a && b && c && d && e && f && g) ≡ true → (a ≡ true) × (b ≡ true) × (c ≡ true) × (d ≡ true) × (e ≡ true) × (f ≡ true) × (g ≡ true)
seven a b c d e f g h =
    let x = three (a && b && c && d && e) f g h in
    let y = five a b c d e x.0 in
    (y.0, y.1, y.2, y.3, y.4, x.1, x.2)

up_to : (a b : ℕ) → nat_le a b ≡ true → a ≤ b
up_to a b h = leb-true a b h

ranged : (low high n : ℕ) → is_from low high n ≡ true → Ranges low high n
ranged low high n h = let f = two (nat_le low n) (nat_le n high) h in (up_to low n f.0, up_to n high f.1)

not_true : (b : Bool) → not b ≡ true → b ≡ true → ⊥
not_true b h e = true≢false (sym h ∙ ap not e)

-- ---- entries of lists

-- of two entries that do not pass a test of each two, one is not before the other
pairs_at : {X : Type 0} (test : X → X → Bool) (other : X) (xs : List X) (m n : ℕ) → all_pairs test xs ≡ true → 1 ≤ m → m < n → n ≤ length xs → test (entry other xs m) (entry other xs n) ≡ true
pairs_at test other xs zero n h l k u = absurd (omega arith)
pairs_at test other [] (suc m) n h l k u = absurd (omega arith)
pairs_at test other (x ∷ xs) (suc m) zero h l k u = absurd (omega arith)
pairs_at test other (x ∷ xs) (suc zero) (suc zero) h l k u = absurd (omega arith)
pairs_at test other (x ∷ xs) (suc zero) (suc (suc n)) h l k u = list_all_at (test x) xs (entry other xs (suc n)) (and_left (list_all (test x) xs) (all_pairs test xs) h) (in_entry other xs (suc n) (omega arith) (omega arith))
pairs_at test other (x ∷ xs) (suc (suc m)) (suc zero) h l k u = absurd (omega arith)
pairs_at test other (x ∷ xs) (suc (suc m)) (suc (suc n)) h l k u = pairs_at test other xs (suc m) (suc n) (and_right (list_all (test x) xs) (all_pairs test xs) h) (omega arith) (omega arith) (omega arith)

-- ---- names

bytes_same : (a : List ℕ) → bytes_eq a a ≡ true
bytes_same [] = refl
bytes_same (x ∷ xs) = both _ _ (eq-eqb x x refl) (bytes_same xs)
  where
    both : (a b : Bool) → a ≡ true → b ≡ true → (a && b) ≡ true
    both a b p q = grind arith

names_apart : {X : Type 0} (name : X → List ℕ) (xs : List X) → all_pairs (λ a b. not (bytes_eq a b)) (map name xs) ≡ true → Pairs (λ (a b : X). name a ≡ name b → ⊥) xs
names_apart name [] h = tt
names_apart {X} name (x ∷ xs) h = (
  λ y m e. not_true (bytes_eq (name x) (name y)) (list_all_at (λ b. not (bytes_eq (name x) b)) (map name xs) (name y) (and_left (list_all (λ b. not (bytes_eq (name x) b)) (map name xs)) (all_pairs (λ a b. not (bytes_eq a b)) (map name xs)) h) (in_map name xs y m)) (subst (λ z. bytes_eq (name x) z ≡ true) e (bytes_same (name x))),
  names_apart name xs (and_right (list_all (λ b. not (bytes_eq (name x) b)) (map name xs)) (all_pairs (λ a b. not (bytes_eq a b)) (map name xs)) h),
)

named : {X : Type 0} (name : X → List ℕ) (xs : List X) → are_names (map name xs) ≡ true → Pairs (λ (a b : X). name a ≡ name b → ⊥) xs
named name xs h = names_apart name xs (and_right (list_all is_name (map name xs)) (all_pairs (λ a b. not (bytes_eq a b)) (map name xs)) h)

signals_apart : (os : List Overlap) → all_pairs (λ a b. not (a.signal.0 == b.signal.0)) os ≡ true → Pairs (λ (a b : Overlap). a.signal ≡ b.signal → ⊥) os
signals_apart [] h = tt
signals_apart (o ∷ os) h =
    let test : Overlap → Overlap → Bool = λ a b. not (a.signal.0 == b.signal.0) in
    let f = two (list_all (test o) os) (all_pairs test os) h in
    (λ p m e. not_true (o.signal.0 == p.signal.0) (list_all_at (test o) os p f.0 m) (eq-eqb o.signal.0 p.signal.0 (ap (λ (s : SignalNo). s.0) e)), signals_apart os f.1)

-- ---- one entry of each kind

module _ (d : Station) where
  good_node : (n : NodeNo) → is_good_node d n ≡ true → IsGoodNode d n
  good_node n h =
      let f = four (nat_le (ends_a d n) 2) (nat_le (ends_b d n) 2) (nat_le (ends_a d n + ends_b d n) 3) (not (node_of d n).boundary || (ends_a d n + ends_b d n == 1)) h in
      record {
        side_a = up_to _ _ f.0;
        side_b = up_to _ _ f.1;
        one_switch = up_to _ _ f.2;
        one_end = λ b. eqb-true (ends_a d n + ends_b d n) 1 (only (node_of d n).boundary (ends_a d n + ends_b d n == 1) f.3 b);
      }
    where
      only : (a b : Bool) → (not a || b) ≡ true → a ≡ true → b ≡ true
      only true b h e = h
      only false b h e = absurd (true≢false (sym e))

  good_edge : (e : Edge) → is_good_edge d e ≡ true → IsGoodEdge d e
  good_edge e h =
      let f = seven (is_node d e.from.node) (is_node d e.to.node) (not (e.from.node.0 == e.to.node.0)) (is_from 1 10000000 e.length_mm) (is_from 1 100000 e.speed_mm_s) (nat_le 1 (per_tick_speed d e.speed_mm_s)) (is_from 1 (length d.sections) e.section.0) h in
      record {
        from = ranged 1 (length d.nodes) e.from.node.0 f.0;
        to = ranged 1 (length d.nodes) e.to.node.0 f.1;
        apart = λ s. not_true (e.from.node.0 == e.to.node.0) f.2 (eq-eqb e.from.node.0 e.to.node.0 (ap (λ (n : NodeNo). n.0) s));
        length_mm = ranged 1 10000000 e.length_mm f.3;
        speed = ranged 1 100000 e.speed_mm_s f.4;
        moves = up_to 1 (per_tick_speed d e.speed_mm_s) f.5;
        section = ranged 1 (length d.sections) e.section.0 f.6;
      }

  good_signal : (s : Signal) → is_good_signal d s ≡ true → IsGoodSignal d s
  good_signal s h =
      let f = two (is_node d s.node) (not (node_of d s.node).boundary) h in
      record { node = ranged 1 (length d.nodes) s.node.0 f.0; inside = plain (node_of d s.node).boundary f.1 }
    where
      plain : (b : Bool) → not b ≡ true → b ≡ false
      plain false e = refl
      plain true e = absurd (true≢false (sym e))

  good_vehicle : (v : Vehicle) → is_good_vehicle d v ≡ true → IsGoodVehicle d v
  good_vehicle v h =
      let f = seven (is_from 1 2000000 v.length_mm) (is_from 1 100000 v.accel_mm_s2) (is_from 1 100000 v.brake_mm_s2) (is_from 1 100000 v.speed_mm_s) (nat_le 1 (per_tick_accel d v.accel_mm_s2)) (nat_le 1 (per_tick_accel d v.brake_mm_s2)) (nat_le 1 (per_tick_speed d v.speed_mm_s)) h in
      record {
        length_mm = ranged 1 2000000 v.length_mm f.0;
        accel = ranged 1 100000 v.accel_mm_s2 f.1;
        brake = ranged 1 100000 v.brake_mm_s2 f.2;
        speed = ranged 1 100000 v.speed_mm_s f.3;
        gains = up_to 1 (per_tick_accel d v.accel_mm_s2) f.4;
        slows = up_to 1 (per_tick_accel d v.brake_mm_s2) f.5;
        moves = up_to 1 (per_tick_speed d v.speed_mm_s) f.6;
      }

  good_train : (t : Train) → is_good_train d t ≡ true → IsGoodTrain d t
  good_train t h =
      let f = five (is_vehicle d t.vehicle) (is_from 1 16 (length t.visits)) (list_all (is_good_set d) t.visits) (list_all (λ n. (node_of d n).boundary) (first_visit t)) (are_good_dwells d t) h in
      let g = three (length t.dwell_ms == length t.visits) (list_all (λ ms. nat_le ms (longest_dwell d)) t.dwell_ms) (entry 0 t.dwell_ms 1 == 0) f.4 in
      let of_set : (set : List NodeNo) → In set t.visits → (is_from 1 64 (length set) ≡ true) × (list_all (is_node d) set ≡ true) = λ set m. two (is_from 1 64 (length set)) (list_all (is_node d) set) (list_all_at (is_good_set d) t.visits set f.2 m) in
      record {
        vehicle = ranged 1 (length d.vehicles) t.vehicle.0 f.0;
        visits = ranged 1 16 (length t.visits) f.1;
        nodes = λ set m. ranged 1 64 (length set) (of_set set m).0;
        there = λ set m n i. ranged 1 (length d.nodes) n.0 (list_all_at (is_node d) set n (of_set set m).1 i);
        begins = λ n i. list_all_at (λ n. (node_of d n).boundary) (first_visit t) n f.3 i;
        dwells = eqb-true (length t.dwell_ms) (length t.visits) g.0;
        dwell = λ ms i. up_to ms (longest_dwell d) (list_all_at (λ ms. nat_le ms (longest_dwell d)) t.dwell_ms ms g.1 i);
        leaves_at_once = eqb-true (entry 0 t.dwell_ms 1) 0 g.2;
      }

  has_visit : (t : TrainNo) (j : ℕ) → is_visit d t j ≡ true → HasVisit d t j
  has_visit t j h =
      let f = two (is_from 1 (length d.trains) t.0) (is_from 1 (length (train_of d t).visits) j) h in
      let low = ranged 1 (length (train_of d t).visits) j f.1 in
      (ranged 1 (length d.trains) t.0 f.0, low.0, low.1)

  good_order : (o : Order) → is_good_order d o ≡ true → IsGoodOrder d o
  good_order o h =
      let f = two (is_visit d o.first_train o.first_visit) (is_visit d o.then_train o.then_visit) h in
      record { first_names = has_visit o.first_train o.first_visit f.0; after = has_visit o.then_train o.then_visit f.1 }

  good_within : (w : Within) → is_good_within d w ≡ true → IsGoodWithin d w
  good_within w h =
      let f = three (is_visit d w.from_train w.from_visit) (is_visit d w.to_train w.to_visit) (nat_le w.max_ms 86400000) h in
      record { from = has_visit w.from_train w.from_visit f.0; to = has_visit w.to_train w.to_visit f.1; at_most_a_day = up_to w.max_ms 86400000 f.2 }

  good_overlap : (o : Overlap) → is_good_overlap d o ≡ true → IsGoodOverlap d o
  good_overlap o h =
      let f = four (is_from 1 (length d.signals) o.signal.0) (is_from 1 16 (length o.sections)) (list_all (λ z. is_from 1 (length d.sections) z.0) o.sections) (nat_le o.hold_ms 600000) h in
      record {
        signal = ranged 1 (length d.signals) o.signal.0 f.0;
        sections = ranged 1 16 (length o.sections) f.1;
        there = λ z m. ranged 1 (length d.sections) z.0 (list_all_at (λ (z : SectionNo). is_from 1 (length d.sections) z.0) o.sections z f.2 m);
        hold = up_to o.hold_ms 600000 f.3;
      }

  one_signal : all_pairs are_apart d.signals ≡ true → (s q : SignalNo) → IsSignal d s → IsSignal d q → (signal_of d s).node ≡ (signal_of d q).node → (signal_of d s).toward ≡ (signal_of d q).toward → s ≡ q
  one_signal h s q k l n t = go (ordered s.0 q.0)
    where
      ordered : (a b : ℕ) → ((a < b) × (b < a → ⊥)) ⊎ ((b < a) ⊎ (a ≡ b))
      ordered a b = which (below_or_not a b) (below_or_not b a)
        where
          which : (a < b) ⊎ (b ≤ a) → (b < a) ⊎ (a ≤ b) → ((a < b) × (b < a → ⊥)) ⊎ ((b < a) ⊎ (a ≡ b))
          which (inl x) y = inl (x, λ z. absurd (omega arith))
          which (inr x) (inl y) = inr (inl y)
          which (inr x) (inr y) = inr (inr (omega arith))

      side_same : (a b : Side) → a ≡ b → is_side a b ≡ true
      side_same A b e = subst (λ x. is_side A x ≡ true) e refl
      side_same B b e = subst (λ x. is_side B x ≡ true) e refl

      none : Signal
      none = record { name = []; node = record { 0 = 0 }; toward = A }

      both : (a b : Bool) → a ≡ true → b ≡ true → (a && b) ≡ true
      both a b p q = grind arith

      clash : (x y : Signal) → x.node ≡ y.node → x.toward ≡ y.toward → are_apart x y ≡ true → ⊥
      clash x y e f apart = not_true ((x.node.0 == y.node.0) && is_side x.toward y.toward) apart (both (x.node.0 == y.node.0) (is_side x.toward y.toward) (eq-eqb x.node.0 y.node.0 (ap (λ (m : NodeNo). m.0) e)) (side_same x.toward y.toward f))

      go : ((s.0 < q.0) × (q.0 < s.0 → ⊥)) ⊎ ((q.0 < s.0) ⊎ (s.0 ≡ q.0)) → s ≡ q
      go (inl x) = absurd (clash (signal_of d s) (signal_of d q) n t (pairs_at are_apart none d.signals s.0 q.0 h k.0 x.0 l.1))
      go (inr (inl x)) = absurd (clash (signal_of d q) (signal_of d s) (sym n) (sym t) (pairs_at are_apart none d.signals q.0 s.0 h l.0 x k.1))
      go (inr (inr e)) = ap (λ i. record { 0 = i }) e

  pub admitted : is_admitted d ≡ true → IsAdmitted d
  admitted h =
      let whole = two (are_few d && is_timed d && are_named d && is_sound_track d && is_sound_traffic d) (are_sound_overlaps d) h in
      let all = five (are_few d) (is_timed d) (are_named d) (is_sound_track d) (is_sound_traffic d) whole.0 in
      let few = seven (nat_le (length d.nodes) 2000) (nat_le (length d.edges) 4000) (nat_le (length d.signals) 1000) (nat_le (length d.vehicles) 64) (is_from 1 128 (length d.trains)) (nat_le (length d.orders) 256) (nat_le (length d.withins) 256) all.0 in
      let time = three (is_from 1 4 d.version) (is_from 100 1000 d.tick_ms) (is_from 1 86400 (horizon d)) all.1 in
      let n1 = are_names (map (λ (n : Node). n.name) d.nodes) in
      let n2 = are_names (map (λ (e : Edge). e.name) d.edges) in
      let n3 = are_names d.sections in
      let n4 = are_names (map (λ (s : Signal). s.name) d.signals) in
      let n5 = are_names (map (λ (v : Vehicle). v.name) d.vehicles) in
      let n6 = are_names (map (λ (t : Train). t.name) d.trains) in
      let late = two (n1 && n2 && n3 && n4 && n5) n6 all.2 in
      let names = five n1 n2 n3 n4 n5 late.0 in
      let track = five (list_all (is_good_node d) (map (λ n. record { 0 = n }) (one_to (length d.nodes)))) (list_all (is_good_edge d) d.edges) (are_numbered (length d.sections) 0 d.edges) (list_all (is_good_signal d) d.signals) (all_pairs are_apart d.signals) all.3 in
      let traffic = four (list_all (is_good_vehicle d) d.vehicles) (list_all (is_good_train d) d.trains) (list_all (is_good_order d) d.orders) (list_all (is_good_within d) d.withins) all.4 in
      let overlaps = three (nat_le (length d.overlaps) (most_overlaps d)) (list_all (is_good_overlap d) d.overlaps) (all_pairs (λ a b. not (a.signal.0 == b.signal.0)) d.overlaps) whole.1 in
      let number : ℕ → NodeNo = λ n. record { 0 = n } in
      record {
        version = ranged 1 4 d.version time.0;
        tick = ranged 100 1000 d.tick_ms time.1;
        ticks = ranged 1 86400 (horizon d) time.2;
        many_nodes = up_to _ _ few.0;
        many_edges = up_to _ _ few.1;
        many_signals = up_to _ _ few.2;
        many_vehicles = up_to _ _ few.3;
        many_trains = ranged 1 128 (length d.trains) few.4;
        many_orders = up_to _ _ few.5;
        many_withins = up_to _ _ few.6;
        many_overlaps = up_to _ _ overlaps.0;
        node_names = named (λ (n : Node). n.name) d.nodes names.0;
        edge_names = named (λ (e : Edge). e.name) d.edges names.1;
        signal_names = named (λ (s : Signal). s.name) d.signals names.3;
        vehicle_names = named (λ (v : Vehicle). v.name) d.vehicles names.4;
        train_names = named (λ (t : Train). t.name) d.trains late.1;
        node = λ n k. good_node n (list_all_at (is_good_node d) (map number (one_to (length d.nodes))) n track.0 (in_map number (one_to (length d.nodes)) n.0 (let l = k.0 in let u = k.1 in in_count 1 (length d.nodes) n.0 (omega arith) (omega arith))));
        edge = λ e k. good_edge (edge_of d e) (list_all_at (is_good_edge d) d.edges (edge_of d e) track.1 (in_entry _ d.edges e.0 k.0 k.1));
        signal = λ s k. good_signal (signal_of d s) (list_all_at (is_good_signal d) d.signals (signal_of d s) track.3 (in_entry _ d.signals s.0 k.0 k.1));
        signals_differ = one_signal track.4;
        vehicle = λ v k. good_vehicle (vehicle_at d v) (list_all_at (is_good_vehicle d) d.vehicles (vehicle_at d v) traffic.0 (in_entry _ d.vehicles v.0 k.0 k.1));
        train = λ t k. good_train (train_of d t) (list_all_at (is_good_train d) d.trains (train_of d t) traffic.1 (in_entry no_train d.trains t.0 k.0 k.1));
        order = λ o m. good_order o (list_all_at (is_good_order d) d.orders o traffic.2 m);
        within = λ w m. good_within w (list_all_at (is_good_within d) d.withins w traffic.3 m);
        overlap = λ o m. good_overlap o (list_all_at (is_good_overlap d) d.overlaps o overlaps.1 m);
        overlaps_differ = signals_apart d.overlaps overlaps.2;
      }
