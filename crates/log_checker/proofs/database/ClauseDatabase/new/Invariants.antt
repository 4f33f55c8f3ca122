use Rattle.std.proofs.Common.{◌≡◌, false, replicate}
use Rattle.log_checker.proofs.database.ClauseDatabase.new.Given as goal

abbrev pub invariant-loop-clause : goal.invariant-loop-clause
invariant-loop-clause l = l.derived.items ≡ replicate l._clause false
