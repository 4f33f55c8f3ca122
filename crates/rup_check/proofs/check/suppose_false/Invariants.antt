use Rattle.std.proofs.Common.{◌≡◌, ◌++◌, map, take}
use Rattle.sat_clause.specs.Clauses.{opposite}
use Rattle.rup_check.proofs.check.suppose_false.Given as goal

abbrev pub invariant-loop-literal : goal.invariant-loop-literal
invariant-loop-literal l = l.assigned ≡ l.fn.assigned ++ map opposite (take l.literal-index l.clause)
