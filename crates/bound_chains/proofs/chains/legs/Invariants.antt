use Rattle.std.proofs.Common.{◌<◌, length}
use Rattle.bound_chains.proofs.chains.legs.Given as goal

-- the last leg is there
abbrev pub invariant-loop-layer : goal.invariant-loop-layer
invariant-loop-layer l = 0 < length l.legs.items
