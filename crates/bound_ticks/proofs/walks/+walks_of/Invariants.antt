use Rattle.std.proofs.Common.{length}
use Rattle.bound_ticks.proofs.walks.+walks_of.Given as goal

abbrev pub decreases-walks_of : goal.decreases-walks_of
decreases-walks_of l = length l.places.now
