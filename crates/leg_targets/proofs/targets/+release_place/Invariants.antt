use Rattle.std.proofs.Common.{length}
use Rattle.leg_targets.proofs.targets.+release_place.Given as goal

abbrev pub decreases-release_place : goal.decreases-release_place
decreases-release_place l = length l.walk.now
