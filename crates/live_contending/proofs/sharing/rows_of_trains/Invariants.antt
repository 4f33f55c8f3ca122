use Rattle.std.proofs.Common.{◌-◌}
use Rattle.live_contending.specs.Rows.{AreRowsTo}
use Rattle.live_contending.proofs.sharing.rows_of_trains.Given as goal

-- those so far
abbrev pub invariant-loop-number : goal.invariant-loop-number
invariant-loop-number l = AreRowsTo l.interlocking.routes l.commands (l.number - 1) l.rows
