-- The starts of a text, a turn at a time.
use Rattle.std.proofs.Common.{◌≡◌, ℕ, zero, suc, ◌-◌, ◌<◌, true, false, ◌==◌, List, [], ◌∷◌, length, Some, None, refl, arith}
use Rattle.toml_parser.specs.Lexical.{first, skip_blank}
use Rattle.toml_places.specs.Extents.{past, past_item, past_line, past_member}
use Rattle.toml_places.specs.Starts.{items_from, keys_from, lines_from}

pub lines_end : (m : ℕ) (text : List ℕ) → length (skip_blank text) ≡ 0 → lines_from m text ≡ []
unfolding lines_from
lines_end zero text none = refl
lines_end (suc m) text none = rw none

pub lines_more : (m : ℕ) (text after : List ℕ) → 0 < m → (length (skip_blank text) == 0) ≡ false → past_line (skip_blank text) ≡ Some after
    → lines_from m text ≡ skip_blank text ∷ lines_from (m - 1) after
unfolding lines_from
lines_more zero text after some other read = absurd (omega arith)
lines_more (suc m) text after some other read =
    let less : suc m - 1 ≡ m = omega arith in
    rw (other, read, less)

pub lines_last : (m : ℕ) (text : List ℕ) → 0 < m → (length (skip_blank text) == 0) ≡ false → past_line (skip_blank text) ≡ None
    → lines_from m text ≡ skip_blank text ∷ []
unfolding lines_from
lines_last zero text some other read = absurd (omega arith)
lines_last (suc m) text some other read = rw (other, read)

pub items_end : (m : ℕ) (text : List ℕ) → (first (skip_blank text) == 93) ≡ true → items_from m text ≡ []
unfolding items_from
items_end zero text closing = refl
items_end (suc m) text closing = rw closing

pub items_more : (m : ℕ) (text after : List ℕ) → 0 < m → (first (skip_blank text) == 93) ≡ false → past_item past (skip_blank text) ≡ Some after
    → items_from m text ≡ skip_blank text ∷ items_from (m - 1) after
unfolding items_from
items_more zero text after some other read = absurd (omega arith)
items_more (suc m) text after some other read =
    let less : suc m - 1 ≡ m = omega arith in
    rw (other, read, less)

pub items_last : (m : ℕ) (text : List ℕ) → 0 < m → (first (skip_blank text) == 93) ≡ false → past_item past (skip_blank text) ≡ None
    → items_from m text ≡ skip_blank text ∷ []
unfolding items_from
items_last zero text some other read = absurd (omega arith)
items_last (suc m) text some other read = rw (other, read)

pub keys_end : (m : ℕ) (text : List ℕ) → (first (skip_blank text) == 125) ≡ true → keys_from m text ≡ []
unfolding keys_from
keys_end zero text closing = refl
keys_end (suc m) text closing = rw closing

pub keys_more : (m : ℕ) (text after : List ℕ) → 0 < m → (first (skip_blank text) == 125) ≡ false → past_member past (skip_blank text) ≡ Some after
    → keys_from m text ≡ skip_blank text ∷ keys_from (m - 1) after
unfolding keys_from
keys_more zero text after some other read = absurd (omega arith)
keys_more (suc m) text after some other read =
    let less : suc m - 1 ≡ m = omega arith in
    rw (other, read, less)

pub keys_last : (m : ℕ) (text : List ℕ) → 0 < m → (first (skip_blank text) == 125) ≡ false → past_member past (skip_blank text) ≡ None
    → keys_from m text ≡ skip_blank text ∷ []
unfolding keys_from
keys_last zero text some other read = absurd (omega arith)
keys_last (suc m) text some other read = rw (other, read)
