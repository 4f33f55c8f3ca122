use Rattle.std.proofs.Common.{length}
use Rattle.bound_ticks.proofs.stretches.+stretches_of.Given as goal

abbrev pub decreases-stretches_of : goal.decreases-stretches_of
decreases-stretches_of l = length l.legs.now
