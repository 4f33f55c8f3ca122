use Rattle.std.proofs.Common.{◌≡◌, ◌-◌, ◌++◌, filter, map}
use Rattle.rail_base.specs.Numbering.{count_from}
use Rattle.rail_spec.specs.Plans.{route_at, share}
use Rattle.route_keepers.specs.Sharing.{sharing}
use Rattle.route_keepers.proofs.Listing.{route_no}
use Rattle.route_keepers.proofs.keeping.sharing.Given as goal

abbrev pub invariant-loop-number : goal.invariant-loop-number
invariant-loop-number l =
    l.routes.items ++ filter (λ v. share (route_at l.interlocking.routes v) (route_at l.interlocking.routes l.route)) (map route_no (count_from l.number (l.number-end - l.number))) ≡ sharing l.interlocking.routes l.route
