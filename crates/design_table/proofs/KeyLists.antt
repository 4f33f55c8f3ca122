-- The keys of a table as a list of texts and as members, and known keys as a list and among columns.
use Rattle.std.proofs.Common.{◌≡◌, Bool, true, false, ◌||◌, ◌&&◌, not, List, [], ◌∷◌, map, filter, String, Global, string_bytes, refl, ap, bytes_eq, if◌then◌else◌}
use Rattle.std.specs.Prelude.{ℕ}
use Rattle.std.specs.List.{list_any}
use Rattle.std.specs.Map.{keys_of}
use Rattle.toml.specs.View.{members_view}
use Rattle.toml.specs.declared.value.Value.{Value}
use Rattle.design_table.specs.declared.key.Column.{Column}
use Rattle.design_table.specs.declared.key.Key.{Key}
use Rattle.design_table.specs.Keys.{key_text, known_in, keys_in}
use Rattle.design_table.specs.Forms.{has_unknown, is_known}

pub has_unknown_view : (known : List Key) (es : List (String Global × Value)) → has_unknown known (members_view es) ≡ list_any (λ text. not (list_any (λ key. bytes_eq (key_text key) (string_bytes text)) known)) (keys_of es)
has_unknown_view known [] = refl
has_unknown_view known (e ∷ es) = ap (λ b. not (list_any (λ key. bytes_eq (key_text key) (string_bytes e.0)) known) || b) (has_unknown_view known es)

pub known_among : (version : ℕ) (columns : List Column) (text : List ℕ) → is_known (keys_in version columns) text ≡ list_any (λ column. known_in version column && bytes_eq (key_text column.key) text) columns
known_among version [] text = refl
known_among version (column ∷ columns) text = go (known_in version column) (known_among version columns text)
  where
    rest : List Column
    rest = filter (known_in version) columns

    go : (b : Bool) → list_any (λ key. bytes_eq (key_text key) text) (map (λ column. column.key) rest) ≡ list_any (λ column. known_in version column && bytes_eq (key_text column.key) text) columns
        → list_any (λ key. bytes_eq (key_text key) text) (map (λ column. column.key) (if b then column ∷ rest else rest)) ≡ ((b && bytes_eq (key_text column.key) text) || list_any (λ column. known_in version column && bytes_eq (key_text column.key) text) columns)
    go true h = ap (λ b. bytes_eq (key_text column.key) text || b) h
    go false h = h
