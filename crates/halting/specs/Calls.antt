-- The numbers of calls.
use Rattle.std.specs.Prelude.{ℕ, ◌+◌, if◌then◌else◌, nat_lt}

-- the number of the call after so many; past the greatest that is kept it stays
abbrev pub next_call : ℕ → ℕ
next_call calls = if nat_lt calls 18446744073709551615 then calls + 1 else calls
