-- What a shelf holds.
use Rattle.std.specs.Prelude.{ℕ, List, [], if◌then◌else◌, bytes_eq}

-- the bytes under each name; a name that is not there has none
abbrev pub Files : Type 0
Files = List ℕ → List ℕ

-- no name is there
abbrev pub no_files : Files
no_files name = []

-- the same files, with these bytes under this name
abbrev pub updated : Files → List ℕ → List ℕ → Files
updated files name bytes other = if bytes_eq name other then bytes else files other
