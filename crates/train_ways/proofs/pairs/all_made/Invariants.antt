use Rattle.std.proofs.Common.{◌≡◌, ◌-◌, ◌++◌, map}
use Rattle.rail_base.specs.Numbering.{count_from}
use Rattle.train_ways.specs.Pairs.{all_made, made}
use Rattle.train_ways.proofs.pairs.all_made.Given as goal

abbrev pub invariant-loop-pair : goal.invariant-loop-pair
invariant-loop-pair l =
    l.made.items ++ map (made l.interlocking.routes l.visits) (count_from l.pair (l.pair-end - l.pair)) ≡ all_made l.interlocking.routes l.visits
