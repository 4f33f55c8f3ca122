use Rattle.std.proofs.Common.{◌≡◌, ◌-◌, ◌++◌, ◌==◌, filter, get_or, length}
use Rattle.rail_base.specs.Numbering.{count_from}
use Rattle.train_ways.proofs.pairs.ends.Given as goal

abbrev pub invariant-loop-pair : goal.invariant-loop-pair
invariant-loop-pair l =
    l.pairs.items ++ filter (λ p. get_or l.made p 0 == l.all) (count_from l.pair (l.pair-end - l.pair)) ≡ filter (λ p. get_or l.made p 0 == l.all) (count_from 0 (length l.made))
