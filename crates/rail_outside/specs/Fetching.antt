-- What a fetch answers.
use Rattle.std.specs.Prelude.{◌≡◌, ℕ, ◌+◌, ◌<◌, ◌≤◌, Bool, true, false, List, length, Result, Ok, Err, Vec}
use Rattle.std.specs.declared.alloc.Global.{Global}
use Rattle.rail_outside.specs.Growth.{Rose}
use Rattle.rail_outside.specs.declared.shelf.FetchFault.{FetchFault}
use Rattle.rail_outside.specs.declared.shelf.FetchFault.TheVariants.{Failed, TooLong, Memory}

-- of a name that holds these bytes: all of them, or that they are more than the limit
abbrev pub FetchGives : Result (Vec ℕ Global) FetchFault → List ℕ → ℕ → Type 0
FetchGives (Ok v) bytes limit = (v.items ≡ bytes) × (length bytes ≤ limit)
FetchGives (Err (TooLong read)) bytes limit = limit < length bytes
FetchGives (Err Failed) bytes limit = Unit {0}
FetchGives (Err Memory) bytes limit = Unit {0}

-- whatever is given: at most the limit is given, and of a file that is too long one more was read
abbrev pub FetchFits : Result (Vec ℕ Global) FetchFault → ℕ → Type 0
FetchFits (Ok v) limit = length v.items ≤ limit
FetchFits (Err (TooLong read)) limit = read ≡ limit + 1
FetchFits (Err Failed) limit = Unit {0}
FetchFits (Err Memory) limit = Unit {0}

-- `Failed` comes only where the count rose
abbrev pub FetchHasCause : {X : Type 0} → Result X FetchFault → ℕ → ℕ → Type 0
FetchHasCause (Err Failed) before now = Rose before now
FetchHasCause _ before now = Unit {0}

-- `Failed` comes exactly where this is so, want of memory aside
abbrev pub FetchFailsWhere : {X : Type 0} → Result X FetchFault → Bool → Type 0
FetchFailsWhere (Err Failed) fails = fails ≡ true
FetchFailsWhere (Err Memory) fails = Unit {0}
FetchFailsWhere _ fails = fails ≡ false
