-- The station that is made is admitted, whatever is drawn.
use Rattle.std.proofs.Common.{◌≡◌, ℕ, zero, suc, ◌+◌, ◌-◌, ◌*◌, ◌≤◌, ◌<◌, Bool, true, false, ◌&&◌, nat_le, List, [], ◌∷◌, map, length, refl, arith, le-leb}
use Rattle.std.specs.List.{list_all}
use Rattle.std.specs.Fmt.{digits}
use Rattle.rail_base.specs.declared.station.Station.{Station}
use Rattle.rail_base.specs.Members.{all_pairs}
use Rattle.rail_base.specs.Numbering.{one_to}
use Rattle.rail_base.specs.Admission.{is_good_node, is_good_edge, are_numbered, is_good_signal, are_apart, is_good_vehicle, is_good_train, is_good_order, is_good_within, are_few, is_timed, are_named, is_sound_track, is_sound_traffic, are_sound_overlaps, is_admitted}
use Rattle.workload.specs.Draws.{below, drawn, draw, track_length, runs_east, time_of}
use Rattle.workload.specs.Made.{station, made}
use Rattle.workload.specs.Traffic.{train}

-- ---- sizes and tests

-- what holds of each size from 1 to 6
by_size : (P : ℕ → Type 0) → P 1 → P 2 → P 3 → P 4 → P 5 → P 6 → (size : ℕ) → 1 ≤ size → size ≤ 6 → P size
by_size P a b c d e f zero at_least_one at_most_six = absurd (omega arith)
by_size P a b c d e f (suc zero) at_least_one at_most_six = a
by_size P a b c d e f (suc (suc zero)) at_least_one at_most_six = b
by_size P a b c d e f (suc (suc (suc zero))) at_least_one at_most_six = c
by_size P a b c d e f (suc (suc (suc (suc zero)))) at_least_one at_most_six = d
by_size P a b c d e f (suc (suc (suc (suc (suc zero))))) at_least_one at_most_six = e
by_size P a b c d e f (suc (suc (suc (suc (suc (suc zero)))))) at_least_one at_most_six = f
by_size P a b c d e f (suc (suc (suc (suc (suc (suc (suc n))))))) at_least_one at_most_six = absurd (omega arith)

-- what holds of both truth values
by_truth : (P : Bool → Type 0) → P true → P false → (b : Bool) → P b
by_truth P p q true = p
by_truth P p q false = q

two : (a b : Bool) → a ≡ true → b ≡ true → (a && b) ≡ true
two a b p q = rw (p, q) refl

four : (a b c d : Bool) → a ≡ true → b ≡ true → c ≡ true → d ≡ true → (a && b && c && d) ≡ true
four a b c d p q r s = rw (p, q, r, s) refl

five : (a b c d e : Bool) → a ≡ true → b ≡ true → c ≡ true → d ≡ true → e ≡ true → (a && b && c && d && e) ≡ true
five a b c d e p q r s t = rw (p, q, r, s, t) refl

all_map : {X Y : Type 0} (test : Y → Bool) (f : X → Y) (xs : List X) → ((x : X) → test (f x) ≡ true) → list_all test (map f xs) ≡ true
all_map test f [] h = refl
all_map test f (x ∷ xs) h = rw (h x, all_map test f xs h) refl

module _ (long : ℕ → ℕ) (runs_east : ℕ → Bool) (time : ℕ → ℕ) where
  abbrev made_of : ℕ → Station
  made_of size = station size long runs_east time

  -- ---- what the numbers drawn don't touch

  few : (size : ℕ) → 1 ≤ size → size ≤ 6 → are_few (made_of size) ≡ true
  few = by_size (λ size. are_few (made_of size) ≡ true) refl refl refl refl refl refl

  named : (size : ℕ) → 1 ≤ size → size ≤ 6 → are_named (made_of size) ≡ true
  unfolding digits
  named = by_size (λ size. are_named (made_of size) ≡ true) refl refl refl refl refl refl

  good_nodes : (size : ℕ) → 1 ≤ size → size ≤ 6 → list_all (is_good_node (made_of size)) (map (λ n. record { 0 = n }) (one_to (length (made_of size).nodes))) ≡ true
  good_nodes = by_size (λ size. list_all (is_good_node (made_of size)) (map (λ n. record { 0 = n }) (one_to (length (made_of size).nodes))) ≡ true) refl refl refl refl refl refl

  sections_numbered : (size : ℕ) → 1 ≤ size → size ≤ 6 → are_numbered (length (made_of size).sections) 0 (made_of size).edges ≡ true
  sections_numbered = by_size (λ size. are_numbered (length (made_of size).sections) 0 (made_of size).edges ≡ true) refl refl refl refl refl refl

  good_signals : (size : ℕ) → 1 ≤ size → size ≤ 6 → list_all (is_good_signal (made_of size)) (made_of size).signals ≡ true
  good_signals = by_size (λ size. list_all (is_good_signal (made_of size)) (made_of size).signals ≡ true) refl refl refl refl refl refl

  signals_apart : (size : ℕ) → 1 ≤ size → size ≤ 6 → all_pairs are_apart (made_of size).signals ≡ true
  signals_apart = by_size (λ size. all_pairs are_apart (made_of size).signals ≡ true) refl refl refl refl refl refl

  -- ---- edges, by the lengths of the tracks

  module _ (at_least : (i : ℕ) → nat_le 1 (long i) ≡ true) (at_most : (i : ℕ) → nat_le (long i) 10000000 ≡ true) where
    good_edges : (size : ℕ) → 1 ≤ size → size ≤ 6 → list_all (is_good_edge (made_of size)) (made_of size).edges ≡ true
    good_edges = by_size (λ size. list_all (is_good_edge (made_of size)) (made_of size).edges ≡ true)
        (rw (at_least 1, at_most 1) refl)
        (rw (at_least 1, at_most 1, at_least 2, at_most 2) refl)
        (rw (at_least 1, at_most 1, at_least 2, at_most 2, at_least 3, at_most 3) refl)
        (rw (at_least 1, at_most 1, at_least 2, at_most 2, at_least 3, at_most 3, at_least 4, at_most 4) refl)
        (rw (at_least 1, at_most 1, at_least 2, at_most 2, at_least 3, at_most 3, at_least 4, at_most 4, at_least 5, at_most 5) refl)
        (rw (at_least 1, at_most 1, at_least 2, at_most 2, at_least 3, at_most 3, at_least 4, at_most 4, at_least 5, at_most 5, at_least 6, at_most 6) refl)

    sound_track : (size : ℕ) → 1 ≤ size → size ≤ 6 → is_sound_track (made_of size) ≡ true
    sound_track size at_least_one at_most_six = five _ _ _ _ _ (good_nodes size at_least_one at_most_six) (good_edges size at_least_one at_most_six) (sections_numbered size at_least_one at_most_six) (good_signals size at_least_one at_most_six) (signals_apart size at_least_one at_most_six)

  -- ---- trains, whichever way they run

  good_train : (size : ℕ) → 1 ≤ size → size ≤ 6 → (j : ℕ) (east : Bool) → is_good_train (made_of size) (train j east) ≡ true
  good_train = by_size (λ size. (j : ℕ) (east : Bool) → is_good_train (made_of size) (train j east) ≡ true)
      (λ j. by_truth (λ east. is_good_train (made_of 1) (train j east) ≡ true) refl refl)
      (λ j. by_truth (λ east. is_good_train (made_of 2) (train j east) ≡ true) refl refl)
      (λ j. by_truth (λ east. is_good_train (made_of 3) (train j east) ≡ true) refl refl)
      (λ j. by_truth (λ east. is_good_train (made_of 4) (train j east) ≡ true) refl refl)
      (λ j. by_truth (λ east. is_good_train (made_of 5) (train j east) ≡ true) refl refl)
      (λ j. by_truth (λ east. is_good_train (made_of 6) (train j east) ≡ true) refl refl)

  good_trains : (size : ℕ) → 1 ≤ size → size ≤ 6 → list_all (is_good_train (made_of size)) (made_of size).trains ≡ true
  good_trains size at_least_one at_most_six = all_map (is_good_train (made_of size)) (λ j. train j (runs_east j)) (one_to size) (λ j. good_train size at_least_one at_most_six j (runs_east j))

  -- ---- the times of trains

  module _ (in_time : (j : ℕ) → nat_le (time j) 86400000 ≡ true) where
    good_withins : (size : ℕ) → 1 ≤ size → size ≤ 6 → list_all (is_good_within (made_of size)) (made_of size).withins ≡ true
    good_withins = by_size (λ size. list_all (is_good_within (made_of size)) (made_of size).withins ≡ true)
        (rw (in_time 1) refl)
        (rw (in_time 1, in_time 2) refl)
        (rw (in_time 1, in_time 2, in_time 3) refl)
        (rw (in_time 1, in_time 2, in_time 3, in_time 4) refl)
        (rw (in_time 1, in_time 2, in_time 3, in_time 4, in_time 5) refl)
        (rw (in_time 1, in_time 2, in_time 3, in_time 4, in_time 5, in_time 6) refl)

    sound_traffic : (size : ℕ) → 1 ≤ size → size ≤ 6 → is_sound_traffic (made_of size) ≡ true
    sound_traffic size at_least_one at_most_six = four (list_all (is_good_vehicle (made_of size)) (made_of size).vehicles) (list_all (is_good_train (made_of size)) (made_of size).trains) (list_all (is_good_order (made_of size)) (made_of size).orders) (list_all (is_good_within (made_of size)) (made_of size).withins) refl (good_trains size at_least_one at_most_six) refl (good_withins size at_least_one at_most_six)

-- ---- the station, for lengths and times in range

admitted : (long : ℕ → ℕ) (runs_east : ℕ → Bool) (time : ℕ → ℕ) → ((i : ℕ) → (1 ≤ long i) × (long i ≤ 10000000)) → ((j : ℕ) → time j ≤ 86400000) → (size : ℕ) → 1 ≤ size → size ≤ 6 → is_admitted (station size long runs_east time) ≡ true
admitted long runs_east time ranges in_time size at_least_one at_most_six =
    let d : Station = station size long runs_east time in
    two (are_few d && is_timed d && are_named d && is_sound_track d && is_sound_traffic d) (are_sound_overlaps d) (five (are_few d) (is_timed d) (are_named d) (is_sound_track d) (is_sound_traffic d) (few long runs_east time size at_least_one at_most_six) refl (named long runs_east time size at_least_one at_most_six)
    (sound_track long runs_east time (λ i. le-leb 1 (long i) (ranges i).0) (λ i. le-leb (long i) 10000000 (ranges i).1) size at_least_one at_most_six)
    (sound_traffic long runs_east time (λ j. le-leb (time j) 86400000 (in_time j)) size at_least_one at_most_six)) refl

below_most : (m x : ℕ) → 1 ≤ m → below m x < m
below_most m x h = grind arith

-- the station that is made, by any seed
pub made_admitted : (seed size : ℕ) → 1 ≤ size → size ≤ 6 → is_admitted (made seed size) ≡ true
unfolding made
made_admitted seed size at_least_one at_most_six = admitted (track_length seed) (runs_east seed size) (time_of seed size)
    (λ i. let b : draw seed i 100000 < 100000 = below_most 100000 (drawn seed i) (omega arith) in (omega arith, omega arith))
    (λ j. let b : draw seed (size + 2 * (j - 1) + 2) 240 < 240 = below_most 240 (drawn seed (size + 2 * (j - 1) + 2)) (omega arith) in omega arith)
    size at_least_one at_most_six
