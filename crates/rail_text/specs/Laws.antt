-- What writing and reading have to do with one another.
use Rattle.std.specs.Prelude.{◌≡◌, ℕ, ◌^◌, ◌<◌, List, Some, decimal}
use Rattle.rail_text.specs.Numbers.{number_of}
use Rattle.rail_text.specs.Pieces.{pieces, text_of}

-- the digits of a number are read as that number
abbrev pub NumbersReadBack : Type 0
NumbersReadBack = (number : ℕ) → number < 2 ^ 64 → number_of (decimal number) ≡ Some number

-- the lines of a text are all of its bytes
abbrev pub PiecesJoinBack : Type 0
PiecesJoinBack = (text : List ℕ) → text_of (pieces text) ≡ text
