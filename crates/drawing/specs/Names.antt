-- The colour of a name.
use Rattle.std.specs.Prelude.{ℕ, ◌*◌, ◌/◌, ◌%◌, ◌^◌, List, [], ◌∷◌, bit_xor}
use Rattle.drawing.specs.declared.shape.Color.{Color}
use Rattle.drawing.specs.declared.shape.Color.TheVariants.{Named}

-- a hash with one more byte, by FNV-1a
abbrev pub with_byte : ℕ → ℕ → ℕ
with_byte hash byte = (bit_xor hash byte * 16777619) % 2 ^ 32

-- the hash of a name from a hash on
abbrev pub hash_from : ℕ → List ℕ → ℕ
hash_from hash [] = hash
hash_from hash (byte ∷ bytes) = hash_from (with_byte hash byte) bytes

-- the colour of a name, which depends on nothing else
abbrev pub color_of_name : List ℕ → Color
color_of_name name = let hash = hash_from 2166136261 name in Named (bit_xor hash (hash / 32768) % 24)
