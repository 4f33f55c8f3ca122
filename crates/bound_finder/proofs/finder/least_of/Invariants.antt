use Rattle.std.proofs.Common.{◌<◌, IfSome, length}
use Rattle.bound_finder.proofs.finder.least_of.Given as goal

-- the best so far is one of them
abbrev pub invariant-loop-index : goal.invariant-loop-index
invariant-loop-index l = IfSome l.least (λ best. best.0 < length l.found)
