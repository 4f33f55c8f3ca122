-- What `serde_json` reads bytes as.
use Rattle.std.proofs.Common.{◌≡◌, ℕ, List, Some, None, IsUtf8, refl, inl, inr}
use Rattle.std.proofs.lemmas.Bool.{cases_Bool}
use Rattle.std.proofs.lemmas.Str.{is_utf8-from_IsUtf8, IsUtf8-from_is_utf8}
use Rattle.std.specs.Str.{is_utf8}
use Rattle.serde_json.specs.Data.{Data}
use Rattle.serde_json.specs.Read.{read}
use Rattle.rail_plan.specs.Text.{json_of}

pub json_found : (bytes : List ℕ) (d : Data) → IsUtf8 bytes → read bytes ≡ Some d → json_of bytes ≡ Some d
json_found bytes d u p = rw (is_utf8-from_IsUtf8 bytes u) p

pub json_refused : (bytes : List ℕ) → (IsUtf8 bytes → read bytes ≡ None) → json_of bytes ≡ None
json_refused bytes p = elim (cases_Bool (is_utf8 bytes)) [
  | inl h ↦ rw h (p (IsUtf8-from_is_utf8 bytes h))
  | inr h ↦ rw h refl
]
