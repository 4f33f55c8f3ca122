use Rattle.std.proofs.Common.{◌≡◌, ◌-◌, flat_map}
use Rattle.rail_base.specs.Numbering.{one_to}
use Rattle.live_contending.specs.Pairs.{rivals_of_train}
use Rattle.live_contending.specs.Rows.{row_at}
use Rattle.live_contending.proofs.rivals.rivals_by_rows.Given as goal

-- those so far
abbrev pub invariant-loop-number : goal.invariant-loop-number
invariant-loop-number l = l.rivals.items ≡ flat_map (rivals_of_train (row_at l.rows) l.command) (one_to (l.number - 1))
