use Rattle.std.proofs.Common.{◌-◌, ◌≤◌, vec_len}
use Rattle.rail_files.proofs.bytes.read_within.Given as goal

abbrev pub invariant-loop-count : goal.invariant-loop-count
invariant-loop-count g l = vec_len l.bytes ≤ l.limit

abbrev pub decreases-loop-count : goal.decreases-loop-count
decreases-loop-count g l = l.limit - vec_len l.bytes
