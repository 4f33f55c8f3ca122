-- A store that changes nothing.
use Rattle.std.proofs.Common.{◌≡◌, ℕ, List, bytes_eq, refl, ap, sym, inl, inr}
use Rattle.std.proofs.lemmas.Bool.{cases_Bool}
use Rattle.std.proofs.lemmas.Slice.Eq.{bytes_eq-Decides}
use Rattle.rail_outside.specs.Files.{Files, updated}

kept_at : (files : Files) (name other : List ℕ) → files other ≡ updated files name (files name) other
kept_at files name other = elim (cases_Bool (bytes_eq name other)) [
  | inl h ↦ let same : name ≡ other = (bytes_eq-Decides name other).0 h in rw h (ap files (sym same))
  | inr h ↦ rw h refl
]

pub updated-kept : (files : Files) (name : List ℕ) → files ≡ updated files name (files name)
updated-kept files name = λ i other. (kept_at files name other) i
