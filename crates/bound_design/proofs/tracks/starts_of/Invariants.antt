use Rattle.std.proofs.Common.{take}
use Rattle.bound_design.specs.Covering.{IsStartSet}
use Rattle.bound_design.proofs.tracks.starts_of.Given as goal

-- the set has the starts of the routes so far
abbrev pub invariant-loop-number : goal.invariant-loop-number
invariant-loop-number l = IsStartSet l.table l.set (take l.number-index l.numbers)
