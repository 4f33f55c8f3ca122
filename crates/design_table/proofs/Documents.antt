-- What `toml` reads bytes as.
use Rattle.std.proofs.Common.{◌≡◌, ℕ, List, Some, None, IsUtf8, refl, inl, inr}
use Rattle.std.proofs.lemmas.Bool.{cases_Bool}
use Rattle.std.proofs.lemmas.Str.{is_utf8-from_IsUtf8, IsUtf8-from_is_utf8}
use Rattle.std.specs.Str.{is_utf8}
use Rattle.toml.specs.Data.{Members}
use Rattle.toml.specs.Parse.{parse_document}
use Rattle.design_table.specs.Toml.{toml_of}

pub toml_found : (bytes : List ℕ) (ms : Members) → IsUtf8 bytes → parse_document bytes ≡ Some ms → toml_of bytes ≡ Some ms
unfolding toml_of
toml_found bytes ms u p = rw (is_utf8-from_IsUtf8 bytes u) p

pub toml_refused : (bytes : List ℕ) → (IsUtf8 bytes → parse_document bytes ≡ None) → toml_of bytes ≡ None
unfolding toml_of
toml_refused bytes p = elim (cases_Bool (is_utf8 bytes)) [
  | inl h ↦ rw h (p (IsUtf8-from_is_utf8 bytes h))
  | inr h ↦ rw h refl
]
