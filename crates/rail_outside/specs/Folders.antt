-- What a folder in memory holds.
use Rattle.std.specs.Prelude.{ℕ, List, [], Bool, true, false, if◌then◌else◌, Option, find, is_none, bytes_eq}
use Rattle.std.specs.Prelude.{string_bytes}
use Rattle.std.specs.Option.{option_map_or}
use Rattle.rail_outside.specs.declared.folder.File.{File}
use Rattle.rail_outside.specs.declared.folder.Folder.{Folder}
use Rattle.rail_outside.specs.Files.{Files}

-- the first file of a name
abbrev pub first_named : List File → List ℕ → Option File
first_named files name = find (λ file. bytes_eq (string_bytes file.name) name) files

-- no file has this name
abbrev pub lacks : Folder → List ℕ → Bool
lacks folder name = is_none (first_named folder.files.items name)

-- no name is there
abbrev pub no_name : List ℕ → Bool
no_name name = true

-- of names that are not there: all but this one
abbrev pub all_but : (List ℕ → Bool) → List ℕ → List ℕ → Bool
all_but lacking name other = if bytes_eq name other then false else lacking other

-- the bytes under each name
abbrev pub contents_of : Folder → Files
contents_of folder name = option_map_or (λ file. file.bytes.items) (first_named folder.files.items name) []
