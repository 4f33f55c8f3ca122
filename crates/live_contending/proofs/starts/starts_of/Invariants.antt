use Rattle.std.proofs.Common.{◌≡◌, ℕ, ◌<◌, get_or, length, take}
use Rattle.live_contending.specs.Pairs.{pairs_by_rows}
use Rattle.live_contending.specs.Rows.{row_at, train_count}
use Rattle.live_contending.proofs.starts.starts_of.Given as goal

-- those so far
abbrev pub invariant-loop-command : goal.invariant-loop-command
invariant-loop-command l = record {
  many : length l.starts.items ≡ l.command-index;
  before : (k : ℕ) → k < l.command-index → get_or l.starts.items k 0 ≡ length (pairs_by_rows (train_count l.rows) (row_at l.rows) (take k l.commands));
  sum : l.sum ≡ length (pairs_by_rows (train_count l.rows) (row_at l.rows) (take l.command-index l.commands));
}
