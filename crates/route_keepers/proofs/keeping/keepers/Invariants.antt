use Rattle.std.proofs.Common.{◌≡◌, ◌-◌, ◌++◌, map}
use Rattle.rail_base.specs.Numbering.{count_from}
use Rattle.route_keepers.specs.Keepers.{all_keepers, keepers_of}
use Rattle.route_keepers.proofs.Listing.{route_no}
use Rattle.route_keepers.proofs.keeping.keepers.Given as goal

abbrev pub invariant-loop-number : goal.invariant-loop-number
invariant-loop-number l =
    l.rows.items ++ map (λ n. keepers_of l.interlocking.routes (route_no n)) (count_from l.number (l.number-end - l.number)) ≡ all_keepers l.interlocking.routes
