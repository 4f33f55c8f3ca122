use Rattle.std.proofs.Common.{◌≡◌, ℕ, ℤ, pos, Bool, true, false, not, ◌&&◌, List, [], ◌∷◌, ◌++◌, length, refl, ap, ap₂, ◌∙◌}
use Rattle.std.specs.Prelude.{int_le}
use Rattle.std.proofs.lemmas.List.{append-nil}
use Rattle.design_table.specs.declared.key.Key.{Key}
use Rattle.design_table.specs.declared.key.Key.TheVariants as keys
use Rattle.design_table.specs.declared.place.EntryKind.{EntryKind}
use Rattle.design_table.specs.declared.place.EntryKind.TheVariants as kinds
use Rattle.design_table.specs.declared.place.Place.{Place}
use Rattle.design_table.specs.declared.place.Place.TheVariants.{Field}
use Rattle.design_table.specs.Reads.{at}
use Rattle.rail_base.specs.Admission.{is_from}
use Rattle.infra_reader.specs.Limits.{Limit, limit, limits_outside, unless_from, track_outside, traffic_outside}
use Rattle.fault_words.proofs.laws.allowed_is_not_refused.Goals as goal

-- a key with one number, and the keys after it
and_true : (b : Bool) (place : Place) → at (not (b && true)) place ≡ at (not b) place
and_true true place = refl
and_true false place = refl

row : (kind : EntryKind) (i : ℕ) (key : Key) (low high : ℕ) (z : ℤ) (rest : List Limit) (places : List Place) → limits_outside kind i rest ≡ places → limits_outside kind i (limit key low high (z ∷ []) ∷ rest) ≡ unless_from low high z (Field kind i key) ++ places
unfolding unless_from
row kind i key low high z rest places same = ap₂ (λ xs ys. xs ++ ys) (and_true (int_le (pos low) z && int_le z (pos high)) (Field kind i key)) same

last : (kind : EntryKind) (i : ℕ) (key : Key) (low high : ℕ) (z : ℤ) → limits_outside kind i (limit key low high (z ∷ []) ∷ []) ≡ unless_from low high z (Field kind i key)
last kind i key low high z = row kind i key low high z [] [] refl ∙ append-nil (unless_from low high z (Field kind i key))

pub returns : goal.returns
unfolding track_outside traffic_outside
returns c = record {
  edges = λ i e.
      row kinds.Edge i keys.LengthMm 1 10000000 e.length_mm (limit keys.SpeedMmS 1 100000 (e.speed_mm_s ∷ []) ∷ []) _ (
      last kinds.Edge i keys.SpeedMmS 1 100000 e.speed_mm_s);
  vehicles = λ i v.
      row kinds.Vehicle i keys.LengthMm 1 2000000 v.length_mm (limit keys.AccelMmS2 1 100000 (v.accel_mm_s2 ∷ []) ∷ limit keys.BrakeMmS2 1 100000 (v.brake_mm_s2 ∷ []) ∷ limit keys.SpeedMmS 1 100000 (v.speed_mm_s ∷ []) ∷ []) _ (
      row kinds.Vehicle i keys.AccelMmS2 1 100000 v.accel_mm_s2 (limit keys.BrakeMmS2 1 100000 (v.brake_mm_s2 ∷ []) ∷ limit keys.SpeedMmS 1 100000 (v.speed_mm_s ∷ []) ∷ []) _ (
      row kinds.Vehicle i keys.BrakeMmS2 1 100000 v.brake_mm_s2 (limit keys.SpeedMmS 1 100000 (v.speed_mm_s ∷ []) ∷ []) _ (
      last kinds.Vehicle i keys.SpeedMmS 1 100000 v.speed_mm_s)));
  withins = λ i w. last kinds.Within i keys.MaxMs 0 86400000 w.max_ms;
  overlaps = λ i o. ap (λ xs. at (not (is_from 1 16 (length o.sections))) (Field kinds.Overlap i keys.Sections) ++ xs) (last kinds.Overlap i keys.HoldMs 0 600000 o.hold_ms);
  track = λ s. refl;
  traffic = λ s. refl;
}
