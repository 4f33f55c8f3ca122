use Rattle.std.proofs.Common.{◌≡◌, ◌-◌}
use Rattle.std.specs.List.{list_any}
use Rattle.rail_base.specs.Numbering.{count_from}
use Rattle.train_ways.specs.Reached.{is_over}
use Rattle.train_ways.proofs.reached.is_live.Given as goal

abbrev pub invariant-loop-pair : goal.invariant-loop-pair
invariant-loop-pair l =
    list_any (is_over l.found l.left) (count_from l.pair (l.pair-end - l.pair)) ≡ list_any (is_over l.found l.left) (count_from l.first l.width)
