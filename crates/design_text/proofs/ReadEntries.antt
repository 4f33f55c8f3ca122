-- The line of an entry is read as its table, and the lines of an array as its tables.
use Rattle.std.proofs.Common.{◌≡◌, ℕ, suc, ◌+◌, ◌-◌, ◌<◌, ◌≤◌, true, false, ◌==◌, inl, inr, List, [], ◌∷◌, ◌++◌, length, map, codes, flat_map, Some, None, refl, ap, ◌∙◌, arith, append_assoc, length-append}
use Rattle.std.proofs.lemmas.Bool.Decides.{nat_tests}
use Rattle.std.specs.Prelude.{IsAscii}
use Rattle.rail_base.specs.Members.{In}
use Rattle.toml_parser.specs.Lexical.{first, skip_blank}
use Rattle.toml_writer.specs.Text.{key_text as written_key}
use Rattle.toml_writer.proofs.Strings.{is_key_start-key_text}
use Rattle.toml.specs.Data.{Data, table, Items, push_item, depth, has_valid_dates}
use Rattle.toml.specs.View.{items_of}
use Rattle.toml.specs.Tables.{Nodes, no_nodes, value, close, get_node, insert, put, along_dots, at_key}
use Rattle.toml.specs.Parse.{val, keyval, items, members}
use Rattle.toml.specs.Text.{IsValueText}
use Rattle.toml.proofs.Turns.{val_table, items_end, items_more, members_end, members_more, keyval_ok}
use Rattle.toml.proofs.Blanks.{starts_value, skip_none, skip_start, skip_space, skip_newline, skip_within}
use Rattle.toml.proofs.ReadValues.{EndsValue, value_start, read_value, item_join, item_join-none, item_join-push}
use Rattle.design_table.specs.declared.key.Key.{Key}
use Rattle.design_table.specs.Keys.{key_text}
use Rattle.design_text.specs.Texts.{behind_comma, field_text, entry_line}
use Rattle.design_text.proofs.Blanks.{after_comma, after_last, key_equals-close}
use Rattle.design_text.proofs.Keys.{bare}
use Rattle.std.proofs.lemmas.Str.{IsAscii-append}
use Rattle.design_text.proofs.Ascii.{ascii_none, ascii_literal, ascii_comma, ascii_field}

-- a field: its key, the text of its value, and what the text stands for
pub record Row : Type 0 where
  pub at : Key
  pub text : List ℕ
  pub holds : Data

-- the text stands for it, no deeper than so much
pub record IsRead (n : ℕ) (r : Row) : Type 0 where
  pub is_text : IsValueText false r.holds r.text
  pub shallow : depth r.holds ≤ n
  pub valid : has_valid_dates r.holds ≡ true
  pub ascii : IsAscii r.text

abbrev pub AllRead : ℕ → List Row → Type 0
AllRead n [] = Unit {0}
AllRead n (r ∷ rs) = IsRead n r × AllRead n rs

-- a table with these fields, beside what it has
abbrev pub with_rows : List Row → Nodes → Nodes
with_rows [] found = found
with_rows (r ∷ rs) found = with_rows rs (insert (key_text r.at) (value r.holds) found)

-- each key is new as its field comes
abbrev pub AllNew : List Row → Nodes → Type 0
AllNew [] found = Unit {0}
AllNew (r ∷ rs) found = (get_node (key_text r.at) found ≡ None) × AllNew rs (insert (key_text r.at) (value r.holds) found)

abbrev pub field_of_row : Row → Key × List ℕ
field_of_row r = (r.at, r.text)

-- ---- one field

-- a field and the text after it
abbrev row_then : Row → List ℕ → List ℕ
row_then r rest = written_key (key_text r.at) ++ (61 ∷ (r.text ++ rest))

row_starts : (r : Row) (rest : List ℕ) → starts_value (first (row_then r rest)) ≡ true
row_starts r rest =
    let start = is_key_start-key_text (key_text r.at) (61 ∷ (r.text ++ rest)) in
    grind (arith, nat_tests)

row_read : (n : ℕ) (r : Row) (rest : List ℕ) → IsRead n r → EndsValue rest → keyval (val n) (row_then r rest) ≡ Some ((([], key_text r.at), r.holds), rest)
row_read n r rest h ends =
    let start = value_start false r.holds r.text rest h.is_text h.valid in
    keyval_ok (val n) (row_then r rest) (r.text ++ rest) rest ([], key_text r.at) r.holds
    (key_equals-close (key_text r.at) (r.text ++ rest) start.1)
    (read_value false r.holds n r.text rest h.is_text h.shallow h.valid ends)

row_long : (n : ℕ) (r : Row) (rest : List ℕ) → IsRead n r → 2 + length rest ≤ length (row_then r rest)
row_long n r rest h =
    let start = value_start false r.holds r.text rest h.is_text h.valid in
    let some = start.0 in
    omega (arith, length-append (written_key (key_text r.at)) (61 ∷ (r.text ++ rest)), length-append r.text rest)

put_row : (found : Nodes) (k : List ℕ) (d : Data) → get_node k found ≡ None → put ([], k) d found ≡ Some (insert k (value d) found)
unfolding along_dots at_key
put_row found k d none = rw none

-- ---- all fields

-- the fields after the first, and the closing brace
abbrev rows_then : List Row → List ℕ → List ℕ
rows_then [] rest = 125 ∷ rest
rows_then (r ∷ rs) rest = 44 ∷ 32 ∷ row_then r (rows_then rs rest)

rows_end : (rs : List Row) (rest : List ℕ) → EndsValue (rows_then rs rest)
rows_end [] rest = ((refl, refl), (refl, refl))
rows_end (r ∷ rs) rest = ((refl, refl), (refl, refl))

rows_read : (n : ℕ) (r : Row) (rs : List Row) (rest x : List ℕ) (found : Nodes) (m : ℕ) → IsRead n r → AllRead n rs → AllNew (r ∷ rs) found
    → skip_blank x ≡ row_then r (rows_then rs rest) → length x < m → members (val n) m found x ≡ Some (close (with_rows (r ∷ rs) found), rest)
rows_read n r [] rest x found m good more new skip room =
    let after = 125 ∷ rest in
    let s = row_then r after in
    let long = row_long n r after good in
    let starts = row_starts r after in
    let within = skip_within x in
    let same : length (skip_blank x) ≡ length s = ap length skip in
    let other : (first (skip_blank x) == 125) ≡ false = rw skip (grind (arith, nat_tests)) in
    let closing : skip_blank after ≡ 125 ∷ rest = skip_none after 125 refl refl in
    let grown = insert (key_text r.at) (value r.holds) found in
    members_more (val n) m found grown x ([], key_text r.at) r.holds after after (omega arith) other (rw skip (row_read n r after good (rows_end [] rest)))
    (put_row found (key_text r.at) r.holds new.0) (after_last 125 after rest closing refl)
    ∙ members_end (val n) (m - 1) grown after (omega arith) (rw closing refl)
    ∙ rw closing refl
rows_read n r (q ∷ rs) rest x found m good more new skip room =
    let next = 32 ∷ row_then q (rows_then rs rest) in
    let after = 44 ∷ next in
    let s = row_then r after in
    let long = row_long n r after good in
    let starts = row_starts r after in
    let within = skip_within x in
    let same : length (skip_blank x) ≡ length s = ap length skip in
    let other : (first (skip_blank x) == 125) ≡ false = rw skip (grind (arith, nat_tests)) in
    let on : skip_blank next ≡ row_then q (rows_then rs rest) = skip_space (row_then q (rows_then rs rest)) ∙ skip_start (row_then q (rows_then rs rest)) (row_starts q (rows_then rs rest)) in
    let grown = insert (key_text r.at) (value r.holds) found in
    members_more (val n) m found grown x ([], key_text r.at) r.holds after next (omega arith) other (rw skip (row_read n r after good (rows_end (q ∷ rs) rest)))
    (put_row found (key_text r.at) r.holds new.0) (after_comma 125 next)
    ∙ rows_read n q rs rest next grown (m - 1) more.0 more.1 new.1 on (omega arith)

-- ---- the line of an entry

-- the line of an entry is read as its table, whatever follows
abbrev pub LineIsRead : ℕ → List ℕ → Data → Type 0
LineIsRead n line d =
    (rest : List ℕ) → (s : List ℕ) × (line ++ rest ≡ 32 ∷ 123 ∷ s) × (val n (123 ∷ s) ≡ Some (d, 44 ∷ 10 ∷ rest)) × (length rest < length s)

one_field : (r : Row) (rest : List ℕ) → field_text (field_of_row r) ++ rest ≡ row_then r rest
one_field r rest = rw (bare r.at) (append_assoc (key_text r.at) (61 ∷ r.text) rest)

more_fields : (rs : List Row) (rest : List ℕ) → flat_map behind_comma (map field_text (map field_of_row rs)) ++ (125 ∷ rest) ≡ rows_then rs rest
more_fields [] rest = refl
more_fields (r ∷ rs) rest =
    let tail = flat_map behind_comma (map field_text (map field_of_row rs)) in
    append_assoc (44 ∷ 32 ∷ field_text (field_of_row r)) tail (125 ∷ rest)
    ∙ ap (λ t. 44 ∷ 32 ∷ (field_text (field_of_row r) ++ t)) (more_fields rs rest)
    ∙ ap (λ t. 44 ∷ 32 ∷ t) (one_field r (rows_then rs rest))

rows_long : (n : ℕ) (rs : List Row) (rest : List ℕ) → AllRead n rs → length rest < length (rows_then rs rest)
rows_long n [] rest h = omega arith
rows_long n (r ∷ rs) rest h =
    let here = row_long n r (rows_then rs rest) h.0 in
    let more = rows_long n rs rest h.1 in
    omega arith

pub fields_ascii : (n : ℕ) (rs : List Row) → AllRead n rs → IsAscii (flat_map behind_comma (map field_text (map field_of_row rs)))
fields_ascii n [] h = ascii_none
fields_ascii n (r ∷ rs) h = IsAscii-append (behind_comma (field_text (field_of_row r))) (flat_map behind_comma (map field_text (map field_of_row rs))) (ascii_comma (field_text (field_of_row r)) (ascii_field r.at r.text h.0.ascii)) (fields_ascii n rs h.1)

pub entry_ascii : (n : ℕ) (r : Row) (rs : List Row) → IsRead n r → AllRead n rs → IsAscii (entry_line (map field_of_row (r ∷ rs)))
entry_ascii n r rs good more =
    let f = field_text (field_of_row r) in
    let tail = flat_map behind_comma (map field_text (map field_of_row rs)) in
    IsAscii-append (codes " {") ((f ++ tail) ++ codes "},\n") (ascii_literal (codes " {") refl)
    (IsAscii-append (f ++ tail) (codes "},\n") (IsAscii-append f tail (ascii_field r.at r.text good.ascii) (fields_ascii n rs more)) (ascii_literal (codes "},\n") refl))

pub entry_read : (n : ℕ) (r : Row) (rs : List Row) → IsRead n r → AllRead n rs → AllNew (r ∷ rs) no_nodes
    → LineIsRead (suc n) (entry_line (map field_of_row (r ∷ rs))) (table (close (with_rows (r ∷ rs) no_nodes)))
entry_read n r rs good more new rest =
    let after = 44 ∷ 10 ∷ rest in
    let s = row_then r (rows_then rs after) in
    let tail = flat_map behind_comma (map field_text (map field_of_row rs)) in
    let f = field_text (field_of_row r) in
    let is : entry_line (map field_of_row (r ∷ rs)) ++ rest ≡ 32 ∷ 123 ∷ s =
    ap (λ t. 32 ∷ 123 ∷ t) (append_assoc (f ++ tail) (codes "},\n") rest ∙ append_assoc f tail (125 ∷ after) ∙ ap (λ t. f ++ t) (more_fields rs after) ∙ one_field r (rows_then rs after)) in
    let starts = row_starts r (rows_then rs after) in
    let read = rows_read n r rs after s no_nodes (length (123 ∷ s)) good more new (skip_start s starts) (omega arith) in
    let long = row_long n r (rows_then rs after) good in
    let longer = rows_long n rs after more in
    (s, is, val_table n (123 ∷ s) refl refl ∙ rw read refl, omega arith)

-- ---- the lines of an array

-- the lines of entries, and a closing bracket
abbrev pub lines_then : {X : Type 0} → (X → List ℕ) → List X → List ℕ → List ℕ
lines_then line [] rest = 93 ∷ rest
lines_then line (x ∷ xs) rest = line x ++ lines_then line xs rest

pub entries_read : {X : Type 0} (n : ℕ) (line : X → List ℕ) (holds : X → Data) (xs : List X) (rest : List ℕ) (found : Items) (m : ℕ)
    → ((x : X) → In x xs → LineIsRead n (line x) (holds x)) → suc (length (lines_then line xs rest)) < m
    → items (val n) m found (10 ∷ lines_then line xs rest) ≡ Some (item_join found (items_of (map holds xs)), rest)
entries_read n line holds [] rest found m reads room =
    let closing : skip_blank (10 ∷ 93 ∷ rest) ≡ 93 ∷ rest = skip_newline (93 ∷ rest) ∙ skip_none (93 ∷ rest) 93 refl refl in
    items_end (val n) m found (10 ∷ 93 ∷ rest) (omega arith) (rw closing refl) ∙ rw (closing, item_join-none found) refl
entries_read n line holds (x ∷ xs) rest found m reads room =
    let more = lines_then line xs rest in
    let (s, is, read, shorter) = reads x (inl refl) more in
    let t = 10 ∷ (line x ++ more) in
    let at_start : skip_blank t ≡ 123 ∷ s = skip_newline (line x ++ more) ∙ ap skip_blank is ∙ skip_space (123 ∷ s) ∙ skip_none (123 ∷ s) 123 refl refl in
    let size : length (line x ++ more) ≡ length (32 ∷ 123 ∷ s) = ap length is in
    items_more (val n) m found t (holds x) (44 ∷ 10 ∷ more) (10 ∷ more) (omega arith) (rw at_start refl) (rw at_start read) (after_comma 93 (10 ∷ more))
    ∙ entries_read n line holds xs rest (push_item found (holds x)) (m - 1) (λ y i. reads y (inr i)) (omega arith)
    ∙ ap (λ is. Some (is, rest)) (item_join-push found (holds x) (items_of (map holds xs)))
