-- Lists of numbers in a row, and how many members they have.
use Rattle.std.specs.Prelude.{ℕ, zero, suc, ◌+◌, List, length}

-- how many members so many of the lists have, from a number on
abbrev pub member_count : {X : Type 0} → (ℕ → List X) → ℕ → ℕ → ℕ
member_count f a zero = 0
member_count f a (suc n) = length (f a) + member_count f (a + 1) n
