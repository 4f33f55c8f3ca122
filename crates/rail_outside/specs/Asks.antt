-- What was asked of a shelf.
use Rattle.std.specs.Prelude.{ℕ, List, [], ◌∷◌, Result, Err}
use Rattle.rail_outside.specs.declared.shelf.FetchFault.{FetchFault}
use Rattle.rail_outside.specs.declared.shelf.FetchFault.TheVariants as fetch
use Rattle.rail_outside.specs.declared.shelf.StoreFault.{StoreFault}
use Rattle.rail_outside.specs.declared.shelf.StoreFault.TheVariants as store

-- a call, with the name that it was about
pub data Ask : Type 0 where
  fetched : List ℕ → Ask
  stored : List ℕ → Ask

-- a call appends itself, unless it answers want of memory
abbrev pub fetch_asks : {X : Type 0} → Result X FetchFault → List ℕ → List Ask
fetch_asks (Err fetch.Memory) name = []
fetch_asks _ name = fetched name ∷ []

abbrev pub store_asks : {X : Type 0} → Result X StoreFault → List ℕ → List Ask
store_asks (Err store.Memory) name = []
store_asks _ name = stored name ∷ []
