-- The loops over a text, a turn at a time.
use Rattle.std.proofs.Common.{◌≡◌, ℕ, zero, suc, ◌-◌, ◌<◌, true, false, ◌==◌, ◌||◌, List, length, drop, Option, Some, None, refl, arith}
use Rattle.toml_parser.specs.Lexical.{first, skip_blank}
use Rattle.toml_parser.specs.Strings.{Key}
use Rattle.toml.specs.Parse.{after_element, atom, key_equals, val}
use Rattle.toml.proofs.Turns.{val_deep}
use Rattle.toml_places.specs.Extents.{past_atom, past_items, past_members, past_value}

pub items_end : (past : List ℕ → Option (List ℕ)) (m : ℕ) (text : List ℕ) → 0 < m → (first (skip_blank text) == 93) ≡ true
    → past_items past m text ≡ Some (drop 1 (skip_blank text))
unfolding past_items
items_end past zero text some closing = absurd (omega arith)
items_end past (suc m) text some closing = rw closing

pub items_more : (past : List ℕ → Option (List ℕ)) (m : ℕ) (text after next : List ℕ) → 0 < m → (first (skip_blank text) == 93) ≡ false
    → past (skip_blank text) ≡ Some after → after_element 93 after ≡ Some next → past_items past m text ≡ past_items past (m - 1) next
unfolding past_items
items_more past zero text after next some other read element = absurd (omega arith)
items_more past (suc m) text after next some other read element =
    let less : suc m - 1 ≡ m = omega arith in
    rw (other, read, element, less)

pub items_bad : (past : List ℕ → Option (List ℕ)) (m : ℕ) (text : List ℕ) → 0 < m → (first (skip_blank text) == 93) ≡ false
    → past (skip_blank text) ≡ None → past_items past m text ≡ None
unfolding past_items
items_bad past zero text some other read = absurd (omega arith)
items_bad past (suc m) text some other read = rw (other, read)

pub items_bad_end : (past : List ℕ → Option (List ℕ)) (m : ℕ) (text after : List ℕ) → 0 < m → (first (skip_blank text) == 93) ≡ false
    → past (skip_blank text) ≡ Some after → after_element 93 after ≡ None → past_items past m text ≡ None
unfolding past_items
items_bad_end past zero text after some other read element = absurd (omega arith)
items_bad_end past (suc m) text after some other read element = rw (other, read, element)

pub members_end : (past : List ℕ → Option (List ℕ)) (m : ℕ) (text : List ℕ) → 0 < m → (first (skip_blank text) == 125) ≡ true
    → past_members past m text ≡ Some (drop 1 (skip_blank text))
unfolding past_members
members_end past zero text some closing = absurd (omega arith)
members_end past (suc m) text some closing = rw closing

pub members_more : (past : List ℕ → Option (List ℕ)) (m : ℕ) (text value after next : List ℕ) (key : Key) → 0 < m → (first (skip_blank text) == 125) ≡ false
    → key_equals (skip_blank text) ≡ Some (key, value) → past value ≡ Some after → after_element 125 after ≡ Some next
    → past_members past m text ≡ past_members past (m - 1) next
unfolding past_members
members_more past zero text value after next key some other named read element = absurd (omega arith)
members_more past (suc m) text value after next key some other named read element =
    let less : suc m - 1 ≡ m = omega arith in
    rw (other, named, read, element, less)

pub members_bad : (past : List ℕ → Option (List ℕ)) (m : ℕ) (text : List ℕ) → 0 < m → (first (skip_blank text) == 125) ≡ false
    → key_equals (skip_blank text) ≡ None → past_members past m text ≡ None
unfolding past_members
members_bad past zero text some other named = absurd (omega arith)
members_bad past (suc m) text some other named = rw (other, named)

pub members_bad_value : (past : List ℕ → Option (List ℕ)) (m : ℕ) (text value : List ℕ) (key : Key) → 0 < m → (first (skip_blank text) == 125) ≡ false
    → key_equals (skip_blank text) ≡ Some (key, value) → past value ≡ None → past_members past m text ≡ None
unfolding past_members
members_bad_value past zero text value key some other named read = absurd (omega arith)
members_bad_value past (suc m) text value key some other named read = rw (other, named, read)

pub members_bad_end : (past : List ℕ → Option (List ℕ)) (m : ℕ) (text value after : List ℕ) (key : Key) → 0 < m → (first (skip_blank text) == 125) ≡ false
    → key_equals (skip_blank text) ≡ Some (key, value) → past value ≡ Some after → after_element 125 after ≡ None → past_members past m text ≡ None
unfolding past_members
members_bad_end past zero text value after key some other named read element = absurd (omega arith)
members_bad_end past (suc m) text value after key some other named read element = rw (other, named, read, element)

pub value_atom : (depth : ℕ) (text : List ℕ) → (first text == 91) ≡ false → (first text == 123) ≡ false → past_value depth text ≡ past_atom text
unfolding past_value
value_atom zero text a b = refl
value_atom (suc depth) text a b = rw (a, b)

pub value_array : (depth : ℕ) (text : List ℕ) → 0 < depth → (first text == 91) ≡ true → past_value depth text ≡ past_items (past_value (depth - 1)) (length text) (drop 1 text)
unfolding past_value
value_array zero text some a = absurd (omega arith)
value_array (suc depth) text some a =
    let less : suc depth - 1 ≡ depth = omega arith in
    rw (less, a)

pub value_table : (depth : ℕ) (text : List ℕ) → 0 < depth → (first text == 91) ≡ false → (first text == 123) ≡ true → past_value depth text ≡ past_members (past_value (depth - 1)) (length text) (drop 1 text)
unfolding past_value
value_table zero text some a b = absurd (omega arith)
value_table (suc depth) text some a b =
    let less : suc depth - 1 ≡ depth = omega arith in
    rw (less, a, b)

no_atom : (text : List ℕ) → ((first text == 91) || (first text == 123)) ≡ true → atom text ≡ None
unfolding val
no_atom text h = val_deep text h

-- at the end of the depth a bracket is no value
pub value_deep : (text : List ℕ) → ((first text == 91) || (first text == 123)) ≡ true → past_value 0 text ≡ None
unfolding past_value past_atom
value_deep text h = rw (no_atom text h)
