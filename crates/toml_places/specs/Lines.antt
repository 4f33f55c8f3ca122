-- The line and the column of a place of a text.
use Rattle.std.specs.Prelude.{ℕ, ◌+◌, ◌-◌, Bool, ◌||◌, ◌==◌, nat_le, nat_lt, List, [], ◌∷◌, filter, length, take, if◌then◌else◌}
use Rattle.std.specs.List.{find, list_any}
use Rattle.std.specs.Option.{option_map_or}
use Rattle.rail_text.specs.Pieces.{is_lf, pieces}

-- a byte of UTF-8 that begins a character
abbrev pub begins_character : ℕ → Bool
begins_character byte = nat_lt byte 128 || nat_le 192 byte

-- what stands behind the last LF
abbrev pub last_line : List ℕ → List ℕ
last_line [] = []
last_line (byte ∷ bytes) = if list_any is_lf (byte ∷ bytes) then last_line bytes else byte ∷ bytes

-- the characters of a line of so many, and one byte more
abbrev pub characters_with : ℕ → ℕ → ℕ
characters_with count byte = if is_lf byte then 0 else if begins_character byte then count + 1 else count

-- the text before the rest of it
abbrev pub before : List ℕ → List ℕ → List ℕ
before text rest = take (length text - length rest) text

-- the line in which the rest of a text begins, and the column by characters, both counted from 1
abbrev pub line_number : List ℕ → List ℕ → ℕ
line_number text rest = length (filter is_lf (before text rest)) + 1

abbrev pub column : List ℕ → List ℕ → ℕ
column text rest = length (filter begins_character (last_line (before text rest))) + 1

-- the line of this number, without its LF
abbrev pub line_text : List ℕ → ℕ → List ℕ
line_text text number = option_map_or (λ piece. piece.bytes) (find (λ piece. piece.line == number) (pieces text)) []
