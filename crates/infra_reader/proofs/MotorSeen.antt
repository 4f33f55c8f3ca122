-- Rates that are 0 in a tick.
use Rattle.std.proofs.Common.{◌≡◌, ℕ, ◌/◌, nat_lt, ◌==◌, arith}

pub below_whole : (n : ℕ) → (n / 1000000 == 0) ≡ nat_lt n 1000000
below_whole n = grind arith
