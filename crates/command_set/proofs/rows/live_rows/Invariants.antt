use Rattle.std.proofs.Common.{◌≡◌, ◌-◌, map}
use Rattle.rail_base.specs.Numbering.{one_to}
use Rattle.interlocking.specs.Plans.{on}
use Rattle.command_set.specs.Rows.{live_row, train_no}
use Rattle.command_set.proofs.rows.live_rows.Given as goal

-- those so far
abbrev pub invariant-loop-number : goal.invariant-loop-number
invariant-loop-number l = l.rows.items ≡ map (λ n. on l.onward.interlocking.now live_row (train_no n)) (one_to (l.number - 1))
