-- Where a command stands in the text of a plan.
use Rattle.std.specs.Prelude.{◌≡◌, ℕ, Bool, true, false, ◌&&◌, ◌==◌, List, ◌++◌, bytes_eq, codes, drop, length, take}
use Rattle.std.specs.Prelude.{Option, None, Some, option_and_then}
use Rattle.rail_plan.specs.Text.{Written, command_of, json_of}
use Rattle.serde_json.specs.Data.{Data}
use Rattle.plan_values.specs.Values.{step_in, steps_in, written_in}

-- what stands behind the last command of a plan, with a command before it
abbrev pub closing : List ℕ
closing = codes "[\"\",0]]]}"

-- a text has i steps, and the last of them j commands
abbrev pub is_last : ℕ → ℕ → Option Data → Bool
is_last i j None = false
is_last i j (Some v) = (length (steps_in v) == i) && (length (step_in v i) == j)

-- two commands are written alike
abbrev pub are_alike : Option Written → Option Written → Bool
are_alike (Some w) (Some x) = bytes_eq w.0 x.0 && (w.1 == x.1)
are_alike _ _ = false

-- the text up to its n-th byte, ended with a command and all brackets, has i steps and j commands in the last; and the m
-- bytes behind spell command w
abbrev pub begins_command : List ℕ → ℕ → ℕ → Option Written → ℕ → ℕ → Bool
begins_command text i j w n m =
    is_last i j (json_of (take n text ++ closing))
    && are_alike (option_and_then command_of (json_of (take m (drop n text)))) w

-- the rest of a text begins with command j of step i, which is so written; or nothing is said of where that is
abbrev pub IsPlaceOf : List ℕ → Data → ℕ → ℕ → Option (List ℕ) → Type 0
IsPlaceOf text v i j None = Unit {0}
IsPlaceOf text v i j (Some rest) =
    (n m : ℕ) × (rest ≡ drop n text) × (begins_command text i j (written_in v i j) n m ≡ true)
