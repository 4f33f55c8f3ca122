-- How a shelf and a sink are used: what a call that ends so has asked, and what of it is counted.
use Rattle.std.specs.Prelude.{◌≡◌, ◌≤◌, ℕ, List, Option}
use Rattle.rail_outside.specs.Asks.{Ask}
use Rattle.rail_outside.specs.Files.{Files}
use Rattle.rail_outside.specs.Growth.{GrowsByPrefix, Rose}

-- the count of faults does not fall, and has risen where the call says that a side failed
pub record Counts {Side : Type 0} (fault_count : Side → ℕ) (old new : Side) (failed : Type 0) : Type 0 where
  pub cause : failed → Rose (fault_count old) (fault_count new)
  pub never_falls : fault_count old ≤ fault_count new

-- the same of a shelf, of which these are asked, or the first of them
pub record Uses {Shelf : Type 0} (asked : Shelf → Option (List Ask)) (fault_count : Shelf → ℕ) (old new : Shelf) (calls : List Ask)
    (failed : Type 0) : Type 0 where
  pub cause : failed → Rose (fault_count old) (fault_count new)
  pub never_falls : fault_count old ≤ fault_count new
  pub asks : GrowsByPrefix (asked old) (asked new) calls

-- the same where nothing is stored
pub record OnlyFetches {Shelf : Type 0} (known_files : Shelf → Option Files) (asked : Shelf → Option (List Ask)) (fault_count : Shelf → ℕ)
    (old new : Shelf) (calls : List Ask) (failed : Type 0) : Type 0 where
  pub cause : failed → Rose (fault_count old) (fault_count new)
  pub never_falls : fault_count old ≤ fault_count new
  pub files_stay : known_files new ≡ known_files old
  pub asks : GrowsByPrefix (asked old) (asked new) calls
