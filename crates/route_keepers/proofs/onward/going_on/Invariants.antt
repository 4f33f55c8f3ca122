use Rattle.std.proofs.Common.{◌≡◌, ◌-◌, ◌++◌, filter, map}
use Rattle.rail_base.specs.Numbering.{count_from}
use Rattle.rail_spec.specs.Plans.{goes_on, route_at}
use Rattle.route_keepers.specs.Chains.{going_on}
use Rattle.route_keepers.proofs.Listing.{route_no}
use Rattle.route_keepers.proofs.onward.going_on.Given as goal

abbrev pub invariant-loop-number : goal.invariant-loop-number
invariant-loop-number l =
    l.routes ++ filter (λ q. goes_on l.finish (route_at l.interlocking.routes q).start) (map route_no (count_from l.number (l.number-end - l.number)))
    ≡ going_on l.interlocking.routes l.fn.route
