use Rattle.std.proofs.Common.{◌≡◌, ◌-◌}
use Rattle.command_set.specs.Blocks.{member_count}
use Rattle.live_contending.specs.Pairs.{rivals_of_train}
use Rattle.live_contending.specs.Rows.{row_at}
use Rattle.live_contending.proofs.starts.rivals_before.Given as goal

-- those so far
abbrev pub invariant-loop-number : goal.invariant-loop-number
invariant-loop-number l = l.count ≡ member_count (rivals_of_train (row_at l.rows) l.command) 1 (l.number - 1)
