-- Where lines, items and keys begin: each by the text from there on.
use Rattle.std.specs.Prelude.{ℕ, zero, suc, ◌==◌, List, [], ◌∷◌, length, if◌then◌else◌}
use Rattle.std.specs.Option.{option_map_or}
use Rattle.toml_parser.specs.Lexical.{right_bracket, right_brace, first, skip_blank}
use Rattle.toml.specs.Parse.{skip_bom}
use Rattle.toml_places.specs.Extents.{past, past_item, past_line, past_member}

-- the lines of a text of fewer than n of them, without blank ones
unfoldable pub lines_from : ℕ → List ℕ → List (List ℕ)
lines_from zero text = []
lines_from (suc n) text =
    let start = skip_blank text in
    if length start == 0 then [] else start ∷ option_map_or (lines_from n) (past_line start) []

-- the items of the rest of an array, of fewer than n
unfoldable pub items_from : ℕ → List ℕ → List (List ℕ)
items_from zero text = []
items_from (suc n) text =
    let start = skip_blank text in
    if first start == right_bracket then [] else start ∷ option_map_or (items_from n) (past_item past start) []

-- the keys of the rest of an inline table, of fewer than n
unfoldable pub keys_from : ℕ → List ℕ → List (List ℕ)
keys_from zero text = []
keys_from (suc n) text =
    let start = skip_blank text in
    if first start == right_brace then [] else start ∷ option_map_or (keys_from n) (past_member past start) []

-- the lines of a text: each a header, or a key with its value
abbrev pub lines_in : List ℕ → List (List ℕ)
lines_in text = lines_from (suc (length text)) text

-- the items of an array, behind its bracket
abbrev pub items_in : List ℕ → List (List ℕ)
items_in text = items_from (suc (length text)) text

-- the keys of an inline table, behind its brace
abbrev pub keys_in : List ℕ → List (List ℕ)
keys_in text = keys_from (suc (length text)) text

-- the lines of a document, which may begin with a byte order mark
abbrev pub document_lines : List ℕ → List (List ℕ)
document_lines text = lines_in (skip_bom text)
