use Rattle.std.proofs.Common.{◌≡◌, ◌++◌, drop}
use Rattle.bound_ticks.specs.Walks.{longer_by}
use Rattle.bound_ticks.proofs.walks.push_longer.Given as goal

-- those added, and those left to add
abbrev pub invariant-loop-walk : goal.invariant-loop-walk
invariant-loop-walk l = l.walks.items ++ longer_by l.routes (drop l.walk-index l.later) l.route ≡ l.fn.walks.items ++ longer_by l.routes l.later l.route
