use Rattle.std.proofs.Common.{◌≡◌, ◌-◌, ◌++◌, map}
use Rattle.rail_base.specs.Numbering.{count_from}
use Rattle.train_ways.specs.Pairs.{graph, next_pairs}
use Rattle.train_ways.proofs.pairs.next_pairs.Given as goal

abbrev pub invariant-loop-pair : goal.invariant-loop-pair
invariant-loop-pair l =
    l.next.items ++ map (next_pairs l.interlocking.routes l.visits) (count_from l.pair (l.pair-end - l.pair)) ≡ graph l.interlocking.routes l.visits
