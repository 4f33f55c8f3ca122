-- The names of an admitted station are text.
use Rattle.std.proofs.Common.{◌≡◌, Result, Ok, Err, ℕ, zero, suc, ◌<◌, ◌≤◌, nat_le, inl, inr, true, ◌&&◌, ◌||◌, ◌==◌, List, [], ◌∷◌, map, IsUtf8, arith, leb-true, eqb-true, refl}
use Rattle.std.specs.Prelude.{IsAscii, MatchResult}
use Rattle.std.specs.Result.{IsOk}
use Rattle.std.specs.List.{list_all}
use Rattle.std.proofs.lemmas.Str.{IsUtf8-from_ascii}
use Rattle.rail_base.specs.declared.station.Station.{Station}
use Rattle.rail_base.specs.declared.station.Train.{Train}
use Rattle.rail_base.specs.declared.station.TrainNo.{TrainNo}
use Rattle.rail_base.specs.Admission.{is_from, is_name_byte, is_name, are_names, is_admitted, are_few, is_timed, are_named, is_sound_track, is_sound_traffic, are_sound_overlaps}
use Rattle.rail_base.specs.Stations.{no_train, train_of, IsTrain}
use Rattle.rail_base.proofs.Members.{and_left, and_right, either, list_all_at}
use Rattle.rail_base.proofs.Lists.{in_map, in_entry}

below : (low high b : ℕ) → high < 128 → is_from low high b ≡ true → b < 128
below low high b h e = let l : b ≤ high = leb-true b high (and_right (nat_le low b) (nat_le b high) e) in omega arith

is_low : (b : ℕ) → is_name_byte b ≡ true → b < 128
is_low b h = elim (either (is_from 48 57 b || is_from 65 90 b || is_from 97 122 b || (b == 95)) (b == 45) h) [
  | inr e ↦ let same = eqb-true b 45 e in omega arith
  | inl k ↦ elim (either (is_from 48 57 b || is_from 65 90 b || is_from 97 122 b) (b == 95) k) [
    | inr e ↦ let same = eqb-true b 95 e in omega arith
    | inl l ↦ elim (either (is_from 48 57 b || is_from 65 90 b) (is_from 97 122 b) l) [
      | inr e ↦ below 97 122 b (omega arith) e
      | inl m ↦ elim (either (is_from 48 57 b) (is_from 65 90 b) m) [
        | inr e ↦ below 65 90 b (omega arith) e
        | inl e ↦ below 48 57 b (omega arith) e
      ]
    ]
  ]
]

pub all_low : (bs : List ℕ) → list_all is_name_byte bs ≡ true → IsAscii bs
all_low [] h i = omega arith
all_low (b ∷ bs) h zero = is_low b (and_left (is_name_byte b) (list_all is_name_byte bs) h)
all_low (b ∷ bs) h (suc i) = all_low bs (and_right (is_name_byte b) (list_all is_name_byte bs) h) i

pub name_is_text : (d : Station) → is_admitted d ≡ true → (t : TrainNo) → IsTrain d t → IsUtf8 (train_of d t).name
name_is_text d h t k =
    let names = map (λ (u : Train). u.name) d.trains in
    let named : are_named d ≡ true = and_right (are_few d && is_timed d) (are_named d) (and_left (are_few d && is_timed d && are_named d) (is_sound_track d) (and_left (are_few d && is_timed d && are_named d && is_sound_track d) (is_sound_traffic d) (and_left (are_few d && is_timed d && are_named d && is_sound_track d && is_sound_traffic d) (are_sound_overlaps d) h))) in
    let of_trains : are_names names ≡ true = and_right _ (are_names names) named in
    let each : list_all is_name names ≡ true = and_left (list_all is_name names) _ of_trains in
    let name = list_all_at is_name names (train_of d t).name each (in_map (λ (u : Train). u.name) d.trains (train_of d t) (in_entry no_train d.trains t.0 k.0 k.1)) in
    IsUtf8-from_ascii (train_of d t).name (all_low (train_of d t).name (and_right _ (list_all is_name_byte (train_of d t).name) name))

-- what is no error is there
pub there_unless : {T E : Type 0} (r : Result T E) (A : T → Type 0) (B : E → Type 0) → MatchResult r A B → ((e : E) → B e → ⊥) → IsOk r
there_unless (Ok x) A B m none = refl
there_unless (Err e) A B m none = absurd (none e m)
