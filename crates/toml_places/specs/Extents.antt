-- How far a value goes, and a line: the grammar of TOML 1.1 without what it stores.
use Rattle.std.specs.Prelude.{ℕ, zero, suc, Bool, ◌==◌, ◌&&◌, List, length, drop, slice_index, Option, Some, None, option_map, option_and_then, if◌then◌else◌}
use Rattle.toml_parser.specs.Lexical.{Read, left_bracket, right_bracket, left_brace, right_brace, first, skip_blank}
use Rattle.toml_parser.specs.Strings.{Key, recursion_limit}
use Rattle.toml.specs.Parse.{after_byte, after_element, atom, header_key, key_equals}

-- what follows a string or a scalar
unfoldable pub past_atom : List ℕ → Option (List ℕ)
past_atom text = option_map (λ read. read.1) (atom text)

module _ (past : List ℕ → Option (List ℕ)) where
  -- what follows an item, and a comma where there is one
  abbrev pub past_item : List ℕ → Option (List ℕ)
  past_item text = option_and_then (after_element right_bracket) (past text)

  -- what follows a key with its value, and a comma where there is one
  abbrev pub past_member : List ℕ → Option (List ℕ)
  past_member text = option_and_then (λ key. option_and_then (after_element right_brace) (past key.1)) (key_equals text)

  -- what follows the rest of an array of fewer than n items
  unfoldable pub past_items : ℕ → List ℕ → Option (List ℕ)
  past_items zero text = None
  past_items (suc n) text =
      let start = skip_blank text in
      if first start == right_bracket then Some (drop 1 start) else option_and_then (past_items n) (past_item start)

  -- what follows the rest of an inline table of fewer than n keys
  unfoldable pub past_members : ℕ → List ℕ → Option (List ℕ)
  past_members zero text = None
  past_members (suc n) text =
      let start = skip_blank text in
      if first start == right_brace then Some (drop 1 start) else option_and_then (past_members n) (past_member start)

-- what follows a value, with arrays and inline tables at most this deep
unfoldable pub past_value : ℕ → List ℕ → Option (List ℕ)
past_value zero text = past_atom text
past_value (suc depth) text =
    if first text == left_bracket then past_items (past_value depth) (length text) (drop 1 text)
    else if first text == left_brace then past_members (past_value depth) (length text) (drop 1 text)
    else past_atom text

-- what follows a value as deep as one may be
abbrev pub past : List ℕ → Option (List ℕ)
past = past_value recursion_limit

-- a header of an entry of an array begins here, or a header of a table
abbrev pub is_entry_header : List ℕ → Bool
is_entry_header text = first text == left_bracket && slice_index text 1 == left_bracket

abbrev pub is_header : List ℕ → Bool
is_header text = first text == left_bracket

-- the key of a header and its first closing bracket
abbrev pub header : List ℕ → Read Key
header text = header_key (drop (if is_entry_header text then 2 else 1) text)

-- what follows a header, or a key with its value
unfoldable pub past_line : List ℕ → Option (List ℕ)
past_line text =
    if is_entry_header text
    then option_and_then (λ key. after_byte right_bracket key.1) (header_key (drop 2 text))
    else if is_header text then option_map (λ key. key.1) (header_key (drop 1 text))
    else option_and_then (λ key. past key.1) (key_equals text)
