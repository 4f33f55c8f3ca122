use Rattle.std.proofs.Common.{length}
use Rattle.bound_ticks.proofs.chain.Chain.+ticks.Given as goal

abbrev pub decreases-ticks : goal.decreases-ticks
decreases-ticks l = length l.legs.now
