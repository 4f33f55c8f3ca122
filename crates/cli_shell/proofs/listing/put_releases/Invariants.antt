use Rattle.std.proofs.Common.{◌≡◌, ◌++◌, take}
use Rattle.std.specs.List.{flat_map}
use Rattle.cli_shell.specs.Listings.{release_text}
use Rattle.cli_shell.proofs.listing.put_releases.Given as goal

abbrev pub invariant-loop-section : goal.invariant-loop-section
invariant-loop-section l = l.line.items ≡ l.initial.line.items ++ flat_map (release_text l.design.station) (take l.section-index l.sections)
