use Rattle.std.proofs.Common.{◌≡◌, ◌-◌, ◌++◌, map}
use Rattle.rail_base.specs.Numbering.{count_from}
use Rattle.route_keepers.specs.Chains.{all_going_on, going_on}
use Rattle.route_keepers.proofs.Listing.{route_no}
use Rattle.route_keepers.proofs.onward.all_going_on.Given as goal

abbrev pub invariant-loop-number : goal.invariant-loop-number
invariant-loop-number l =
    l.lists.items ++ map (λ n. going_on l.interlocking.routes (route_no n)) (count_from l.number (l.number-end - l.number)) ≡ all_going_on l.interlocking.routes
