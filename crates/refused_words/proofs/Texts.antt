-- A text that is a table is UTF-8.
use Rattle.std.proofs.Common.{◌≡◌, ℕ, Bool, true, false, if◌then◌else◌, List, Some, None, IsUtf8, refl}
use Rattle.std.proofs.lemmas.Str.{IsUtf8-from_is_utf8}
use Rattle.std.specs.Str.{is_utf8}
use Rattle.toml.specs.Data.{Members}
use Rattle.toml.specs.Parse.{parse_document}
use Rattle.design_table.specs.Toml.{toml_of}

pub table_is_utf8 : (bytes : List ℕ) (ms : Members) → toml_of bytes ≡ Some ms → IsUtf8 bytes
unfolding toml_of
table_is_utf8 bytes ms is = go (is_utf8 bytes) refl is
  where
    go : (b : Bool) → is_utf8 bytes ≡ b → (if b then parse_document bytes else None) ≡ Some ms → IsUtf8 bytes
    go true h e = IsUtf8-from_is_utf8 bytes h
    go false h e = absurd (cc)
