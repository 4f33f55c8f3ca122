-- A list of names as a value of JSON.
use Rattle.std.specs.Prelude.{ℕ, List, map}
use Rattle.serde_json.specs.Data.{Data, string, array}
use Rattle.serde_json.specs.View.{items_of}

abbrev pub names_value : List (List ℕ) → Data
names_value names = array (items_of (map string names))
