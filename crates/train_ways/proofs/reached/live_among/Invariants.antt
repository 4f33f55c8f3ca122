use Rattle.std.proofs.Common.{◌≡◌, ◌-◌, ◌++◌, filter, map}
use Rattle.rail_base.specs.Numbering.{count_from}
use Rattle.train_ways.specs.Reached.{is_live, live_among}
use Rattle.train_ways.proofs.Listing.{route_no}
use Rattle.train_ways.proofs.reached.live_among.Given as goal

abbrev pub invariant-loop-number : goal.invariant-loop-number
invariant-loop-number l =
    l.live.items ++ filter (is_live l.width l.found l.left) (map route_no (count_from l.number (l.number-end - l.number))) ≡ live_among l.width l.found l.left l.routes
