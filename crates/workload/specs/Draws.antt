-- The numbers that are drawn from a seed.
use Rattle.std.specs.Prelude.{ℕ, zero, suc, ◌+◌, ◌*◌, ◌-◌, ◌/◌, ◌%◌, ◌^◌, Bool, ◌==◌}

-- the number of 64 bits that follows another
unfoldable pub next : ℕ → ℕ
next x = (x * 6364136223846793005 + 1442695040888963407) % 2 ^ 64

-- the number after so many draws
abbrev pub drawn : ℕ → ℕ → ℕ
drawn seed zero = seed
drawn seed (suc n) = next (drawn seed n)

-- what a number gives below m: its upper 31 bits
abbrev pub below : ℕ → ℕ → ℕ
below m x = x / 2 ^ 33 % m

-- the n-th draw, below m
abbrev pub draw : ℕ → ℕ → ℕ → ℕ
draw seed n m = below m (drawn seed n)

-- ---- what is drawn for a station: first for each of so many tracks, then twice for each train

-- the length of a track, in mm
abbrev pub track_length : ℕ → ℕ → ℕ
track_length seed track = 150000 + draw seed track 100000

-- whether a train runs from west to east
abbrev pub runs_east : ℕ → ℕ → ℕ → Bool
runs_east seed tracks train = draw seed (tracks + 2 * (train - 1) + 1) 2 == 0

-- the time that a train has, in ms
abbrev pub time_of : ℕ → ℕ → ℕ → ℕ
time_of seed tracks train = 120000 + 1000 * draw seed (tracks + 2 * (train - 1) + 2) 240
