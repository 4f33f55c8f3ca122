-- How many stretches are looked at, counted no further than one past the most.
use Rattle.std.specs.Prelude.{ℕ, min}

-- one more than the most looks
abbrev pub too_many : ℕ
too_many = 33554433

-- no more than that
abbrev pub cap : ℕ → ℕ
cap n = min n too_many
