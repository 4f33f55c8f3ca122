-- Words of bits.
use Rattle.std.specs.Prelude.{ℕ, ◌/◌, ◌%◌, Bool, not, ◌==◌, bit_and, List, slice_index}
use Rattle.std.specs.Int.{bit_at}

-- the words have the number: its bit stands in the word that it falls in
unfoldable pub has : List ℕ → ℕ → Bool
has words k = bit_at (slice_index words (k / 64)) (k % 64) == 1

-- the two words have a bit in common
abbrev pub touch : ℕ × ℕ → Bool
touch p = not (bit_and p.0 p.1 == 0)
