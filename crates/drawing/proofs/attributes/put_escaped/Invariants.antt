use Rattle.std.proofs.Common.{◌≡◌, ◌++◌, take}
use Rattle.std.specs.List.{flat_map}
use Rattle.drawing.specs.Parts.{escaped_byte}
use Rattle.drawing.proofs.attributes.put_escaped.Given as goal

abbrev pub invariant-loop-byte : goal.invariant-loop-byte
invariant-loop-byte l = l.line.items ≡ l.initial.line.items ++ flat_map escaped_byte (take l.byte-index l.text)
