use Rattle.std.proofs.Common.{◌≡◌, ◌-◌, ◌++◌, filter}
use Rattle.rail_base.specs.Numbering.{count_from}
use Rattle.rail_base.specs.Stations.{within_of}
use Rattle.time_words.specs.Times.{is_of_one_train, own_withins}
use Rattle.time_words.proofs.times.own_withins.Given as goal

abbrev pub invariant-loop-number : goal.invariant-loop-number
invariant-loop-number l =
    l.numbers.items ++ filter (λ n. is_of_one_train (within_of l.design.station n)) (count_from l.number (l.number-end - l.number)) ≡ own_withins l.design.station
