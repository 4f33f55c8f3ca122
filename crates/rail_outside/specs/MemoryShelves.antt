-- What a shelf in memory holds, was asked and is to fail.
use Rattle.std.specs.Prelude.{ℕ, ◌+◌, ◌==◌, Bool, List, length, map, string_bytes}
use Rattle.std.specs.List.{list_any}
use Rattle.rail_outside.specs.declared.memory_shelf.Call.{Call}
use Rattle.rail_outside.specs.declared.memory_shelf.Call.TheVariants.{Fetch, Store}
use Rattle.rail_outside.specs.declared.memory_shelf.MemoryShelf.{MemoryShelf}
use Rattle.rail_outside.specs.Files.{Files}
use Rattle.rail_outside.specs.Asks.{Ask, fetched, stored}
use Rattle.rail_outside.specs.Folders.{contents_of, lacks}

-- a kept call, by the bytes of its name
abbrev pub ask_of : Call → Ask
ask_of (Fetch name) = fetched (string_bytes name)
ask_of (Store name) = stored (string_bytes name)

abbrev pub known_files_by : MemoryShelf → Files
known_files_by shelf = contents_of shelf.folder

-- no file has this name
abbrev pub misses : MemoryShelf → List ℕ → Bool
misses shelf name = lacks shelf.folder name

-- the calls so far
abbrev pub asked_of : MemoryShelf → List Ask
asked_of shelf = map ask_of shelf.calls.items

-- the numbers of the calls that are to fail, counted from 1
abbrev pub failing_calls : MemoryShelf → List ℕ
failing_calls shelf = shelf.failing.items

abbrev pub faults_of : MemoryShelf → ℕ
faults_of shelf = shelf.faults

-- the next call is to fail
abbrev pub fails_next : MemoryShelf → Bool
fails_next shelf = list_any (λ call. call == length shelf.calls.items + 1) (failing_calls shelf)
