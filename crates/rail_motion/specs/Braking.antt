-- The part of full braking that is above a limit.
use Rattle.std.specs.Prelude.{ℕ, zero, suc, ◌+◌, ◌-◌, nat_le, if◌then◌else◌}

-- of the moves of u, u - b, u - 2b and so on, the distance of those that are faster than the limit. The first number bounds how many moves there are.
abbrev pub faster_distance : ℕ → ℕ → ℕ → ℕ → ℕ
faster_distance zero b limit u = 0
faster_distance (suc moves) b limit u = let rest = faster_distance moves b limit (u - b) in if nat_le u limit then 0 else u + rest
