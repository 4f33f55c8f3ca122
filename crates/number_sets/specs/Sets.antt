-- Sets of numbers.
use Rattle.std.specs.Prelude.{ℕ, Bool}
use Rattle.number_sets.specs.declared.set.NumberSet.{NumberSet}
use Rattle.number_sets.specs.Words.{has}

-- the set has the number
abbrev pub contains : NumberSet → ℕ → Bool
contains set k = has set.words.items k
