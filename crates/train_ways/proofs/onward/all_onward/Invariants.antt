use Rattle.std.proofs.Common.{◌≡◌, ◌-◌, ◌++◌, map}
use Rattle.rail_base.specs.Numbering.{count_from}
use Rattle.train_ways.specs.Pairs.{all_onward, onward}
use Rattle.train_ways.proofs.Listing.{route_no}
use Rattle.train_ways.proofs.onward.all_onward.Given as goal

abbrev pub invariant-loop-number : goal.invariant-loop-number
invariant-loop-number l =
    l.lists.items ++ map (λ n. onward l.interlocking.routes (route_no n)) (count_from l.number (l.number-end - l.number)) ≡ all_onward l.interlocking.routes
