use Rattle.std.proofs.Common.{◌≡◌, drop}
use Rattle.drawing.specs.Names.{hash_from}
use Rattle.drawing.proofs.names.hash_of.Given as goal

abbrev pub invariant-loop-byte : goal.invariant-loop-byte
invariant-loop-byte l = hash_from l.hash (drop l.byte-index l.name) ≡ hash_from 2166136261 l.name
