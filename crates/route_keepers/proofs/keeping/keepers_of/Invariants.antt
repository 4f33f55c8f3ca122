use Rattle.std.proofs.Common.{◌≡◌, ◌-◌, ◌++◌, filter, map}
use Rattle.rail_base.specs.Numbering.{count_from}
use Rattle.normal_clause_spec.specs.Clauses.{can_keep}
use Rattle.route_keepers.specs.Keepers.{keepers_of}
use Rattle.route_keepers.proofs.Listing.{route_no}
use Rattle.route_keepers.proofs.keeping.keepers_of.Given as goal

abbrev pub invariant-loop-number : goal.invariant-loop-number
invariant-loop-number l =
    l.keepers ++ filter (can_keep l.chains.interlocking.now.routes l.fn.route) (map route_no (count_from l.number (l.number-end - l.number))) ≡ keepers_of l.chains.interlocking.now.routes l.fn.route
