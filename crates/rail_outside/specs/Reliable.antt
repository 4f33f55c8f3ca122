-- What the shelf and the sink that never fail hold.
use Rattle.std.specs.Prelude.{ℕ, List}
use Rattle.rail_outside.specs.declared.reliable.ReliableShelf.{ReliableShelf}
use Rattle.rail_outside.specs.declared.reliable.ReliableSink.{ReliableSink}
use Rattle.rail_outside.specs.Files.{Files}
use Rattle.rail_outside.specs.Folders.{contents_of}

abbrev pub files_on : ReliableShelf → Files
files_on shelf = contents_of shelf.folder

abbrev pub bytes_in : ReliableSink → List ℕ
bytes_in sink = sink.bytes.items
