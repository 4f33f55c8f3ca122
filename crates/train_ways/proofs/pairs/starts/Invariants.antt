use Rattle.std.proofs.Common.{◌≡◌, ◌-◌, ◌++◌, filter, length, map}
use Rattle.rail_base.specs.Numbering.{count_from}
use Rattle.train_ways.specs.Pairs.{begins, pair_of, starts}
use Rattle.train_ways.proofs.Listing.{route_no}
use Rattle.train_ways.proofs.pairs.starts.Given as goal

abbrev pub invariant-loop-number : goal.invariant-loop-number
invariant-loop-number l =
    l.pairs.items ++ map (λ r. pair_of (length l.visits) r 1) (filter (begins l.interlocking.routes l.visits) (map route_no (count_from l.number (l.number-end - l.number))))
    ≡ starts l.interlocking.routes l.visits
