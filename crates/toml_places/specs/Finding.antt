-- The entries of an array, and the keys of an entry.
use Rattle.std.specs.Prelude.{ℕ, Bool, false, ◌==◌, ◌&&◌, List, [], ◌∷◌, ◌++◌, bytes_eq, drop, filter, flat_map, Option, option_map, if◌then◌else◌}
use Rattle.std.specs.Option.{option_map_or}
use Rattle.toml_parser.specs.Lexical.{Read, left_bracket, left_brace, first}
use Rattle.toml_parser.specs.Strings.{Key}
use Rattle.toml.specs.Parse.{key_equals}
use Rattle.toml_places.specs.Extents.{header, is_entry_header, is_header}
use Rattle.toml_places.specs.Starts.{items_in, keys_in, lines_in}

-- the key of a line or of an inline table
abbrev pub key_at : List ℕ → Read Key
key_at text = if is_header text then header text else key_equals text

-- the first part of a key
abbrev pub first_part : Key → List ℕ
first_part ([], last) = last
first_part (part ∷ parts, last) = part

-- the name with which a line or a key begins
abbrev pub name_at : List ℕ → Option (List ℕ)
name_at text = option_map (λ read. first_part read.0) (key_at text)

-- the key is this one name
abbrev pub is_name : List ℕ → Key → Bool
is_name name ([], last) = bytes_eq last name
is_name name (part ∷ parts, last) = false

-- the line is the header of an entry of the array of this name
abbrev pub is_entry_of : List ℕ → List ℕ → Bool
is_entry_of name line = is_entry_header line && option_map_or (λ read. is_name name read.0) (header line) false

-- the items of a value, where it is an array
abbrev pub items_at : List ℕ → List (List ℕ)
items_at value = if first value == left_bracket then items_in (drop 1 value) else []

-- the items of the array that the line gives this name
abbrev pub items_of : List ℕ → List ℕ → List (List ℕ)
items_of name line = option_map_or (λ read. if is_name name read.0 then items_at read.1 else []) (key_equals line) []

-- the lines before the first header
abbrev pub before_headers : List (List ℕ) → List (List ℕ)
before_headers [] = []
before_headers (line ∷ lines) = if is_header line then [] else line ∷ before_headers lines

-- the lines that give something to the document itself: those before the first header, and headers
abbrev pub top_lines : List (List ℕ) → List (List ℕ)
top_lines lines = before_headers lines ++ filter is_header lines

-- the entries of the array of this name, in order
abbrev pub entries_of : List ℕ → List (List ℕ) → List (List ℕ)
entries_of name lines = flat_map (items_of name) (before_headers lines) ++ filter (is_entry_of name) lines

-- the lines after the first
abbrev pub lines_after : List (List ℕ) → List (List ℕ)
lines_after [] = []
lines_after (line ∷ lines) = lines

-- the keys of an entry: those of a table in braces, or the lines up to the next header
abbrev pub keys_of : List ℕ → List (List ℕ)
keys_of entry =
    if first entry == left_brace then keys_in (drop 1 entry)
    else if is_header entry then before_headers (lines_after (lines_in entry))
    else []
