use Rattle.std.proofs.Common.{◌≡◌, drop}
use Rattle.std.specs.List.{list_all}
use Rattle.bound_ticks.specs.Ahead.{ahead_on}
use Rattle.bound_ticks.proofs.ahead.Between.ahead_on_all.Given as goal

-- those left decide
abbrev pub invariant-loop-walk : goal.invariant-loop-walk
invariant-loop-walk l = list_all (ahead_on l.self l.leg l.rest) (drop l.walk-index l.walk-items) ≡ list_all (ahead_on l.self l.leg l.rest) l.walk-items
