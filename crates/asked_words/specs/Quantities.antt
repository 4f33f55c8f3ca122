-- Lengths, speeds and times as people say them.
use Rattle.std.specs.Prelude.{ℕ, zero, suc, ◌+◌, ◌*◌, ◌/◌, ◌%◌, ◌^◌, ◌==◌, nat_lt, if◌then◌else◌, List, [], ◌∷◌, ◌++◌, codes, decimal}

-- so many digits of a number, until nothing but zeros is left: of 250 of three digits `25`, of 25 `025`
abbrev pub digits_of : ℕ → ℕ → List ℕ
digits_of zero n = []
digits_of (suc k) n = if n == 0 then [] else (48 + n / 10 ^ k) ∷ digits_of k (n % 10 ^ k)

-- the same behind a point, where there is something
abbrev pub fraction_text : ℕ → ℕ → List ℕ
fraction_text k n = if n == 0 then [] else 46 ∷ digits_of k n

-- a number of units that have 10^k parts each, by its parts: 1500 of 3 digits is `1.5`
abbrev pub units_text : ℕ → ℕ → List ℕ
units_text k n = decimal (n / 10 ^ k) ++ fraction_text k (n % 10 ^ k)

-- so many mm in m
abbrev pub metres_text : ℕ → List ℕ
metres_text mm = units_text 3 mm ++ codes " m"

-- so many mm/s in km/h
abbrev pub speed_text : ℕ → List ℕ
speed_text mm_s = units_text 4 (mm_s * 36) ++ codes " km/h"

-- so many ms in s
abbrev pub seconds_text : ℕ → List ℕ
seconds_text ms = units_text 3 ms ++ codes " s"

-- so many ms in minutes and seconds
abbrev pub duration_text : ℕ → List ℕ
duration_text ms =
    if nat_lt ms 60000 then seconds_text ms
    else decimal (ms / 60000) ++ codes " min " ++ seconds_text (ms % 60000)
