-- What a store leaves.
use Rattle.std.specs.Prelude.{◌≡◌, ℕ, Bool, true, false, List, Option, option_map, Result, Ok, Err}
use Rattle.rail_outside.specs.Growth.{Rose}
use Rattle.rail_outside.specs.Files.{Files, updated}
use Rattle.rail_outside.specs.declared.shelf.StoreFault.{StoreFault}
use Rattle.rail_outside.specs.declared.shelf.StoreFault.TheVariants.{Failed, Memory}

-- the bytes under the name, or after a failure some bytes; every other name stays
abbrev pub StoreLeaves : {X : Type 0} → Result X StoreFault → Option Files → Option Files → List ℕ → List ℕ → Type 0
StoreLeaves (Ok x) old new name bytes = new ≡ option_map (λ files. updated files name bytes) old
StoreLeaves (Err Failed) old new name bytes =
    (some : List ℕ) × (new ≡ option_map (λ files. updated files name some) old)
StoreLeaves (Err Memory) old new name bytes = new ≡ old

-- `Failed` comes only where the count rose
abbrev pub StoreHasCause : {X : Type 0} → Result X StoreFault → ℕ → ℕ → Type 0
StoreHasCause (Err Failed) before now = Rose before now
StoreHasCause _ before now = Unit {0}

-- `Failed` comes exactly where this is so, want of memory aside
abbrev pub StoreFailsWhere : {X : Type 0} → Result X StoreFault → Bool → Type 0
StoreFailsWhere (Ok x) fails = fails ≡ false
StoreFailsWhere (Err Failed) fails = fails ≡ true
StoreFailsWhere (Err Memory) fails = Unit {0}
