use Rattle.std.proofs.Common.{◌≡◌, ◌++◌, take}
use Rattle.std.specs.List.{flat_map}
use Rattle.cli_shell.specs.Listings.{hold_text}
use Rattle.cli_shell.proofs.listing.put_holds.Given as goal

abbrev pub invariant-loop-part : goal.invariant-loop-part
invariant-loop-part l = l.line.items ≡ l.initial.line.items ++ flat_map (hold_text l.design.station) (take l.part-index l.parts)
