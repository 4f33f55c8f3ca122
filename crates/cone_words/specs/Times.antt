-- How ticks are said, with the time that they take.
use Rattle.std.specs.Prelude.{ℕ, ◌+◌, ◌*◌, ◌/◌, ◌%◌, ◌==◌, if◌then◌else◌, List, [], ◌∷◌, ◌++◌, codes, decimal, min}
use Rattle.rail_base.specs.declared.station.Station.{Station}

-- the code of a digit
abbrev pub digit : ℕ → ℕ
digit n = 48 + n

-- so many thousandths, with no zero at the end: `.05`
abbrev pub fraction_text : ℕ → List ℕ
fraction_text n =
    if n == 0 then []
    else if n % 100 == 0 then 46 ∷ digit (n / 100) ∷ []
    else if n % 10 == 0 then 46 ∷ digit (n / 100) ∷ digit (n / 10 % 10) ∷ []
    else 46 ∷ digit (n / 100) ∷ digit (n / 10 % 10) ∷ digit (n % 10) ∷ []

-- so many ms in s
abbrev pub seconds_text : ℕ → List ℕ
seconds_text ms = decimal (ms / 1000) ++ fraction_text (ms % 1000)

-- so many ticks in ms, as far as 64 bits go
abbrev pub ms_of : Station → ℕ → ℕ
ms_of d ticks = min (ticks * d.tick_ms) 18_446_744_073_709_551_615

-- ` (20.1 s)`
abbrev pub time_text : Station → ℕ → List ℕ
time_text d ticks = codes " (" ++ seconds_text (ms_of d ticks) ++ codes " s)"

-- `1 tick (1 s)`, `2 ticks (2 s)`
abbrev pub ticks_text : Station → ℕ → List ℕ
ticks_text d n = decimal n ++ (if n == 1 then codes " tick" else codes " ticks") ++ time_text d n

-- `tick 7 (7 s)`
abbrev pub tick_text : Station → ℕ → List ℕ
tick_text d n = codes "tick " ++ decimal n ++ time_text d n
