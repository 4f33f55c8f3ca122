use Rattle.std.proofs.Common.{length}
use Rattle.leg_targets.proofs.targets.+target.Given as goal

abbrev pub decreases-target : goal.decreases-target
decreases-target l = length l.walk.now
