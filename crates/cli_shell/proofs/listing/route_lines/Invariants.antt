use Rattle.std.proofs.Common.{◌≡◌, map, take}
use Rattle.std.specs.List.{enumerate_from}
use Rattle.rail_outside.specs.Lines.{lines_of}
use Rattle.cli_shell.specs.Listings.{route_line}
use Rattle.cli_shell.proofs.listing.route_lines.Given as goal

abbrev pub invariant-loop-index : goal.invariant-loop-index
invariant-loop-index l = lines_of l.lines.items ≡ map (route_line l.design.station) (take l.index (enumerate_from 1 l.routes))
