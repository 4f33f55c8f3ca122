use Rattle.std.proofs.Common.{◌≤◌, length}
use Rattle.sat_core.proofs.targets.Targets.remember.Given as goal

abbrev pub invariant-loop-count : goal.invariant-loop-count
invariant-loop-count l = l.count ≤ length l.steps

abbrev pub decreases-loop-count : goal.decreases-loop-count
decreases-loop-count l = l.count
