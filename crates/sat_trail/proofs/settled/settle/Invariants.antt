use Rattle.std.proofs.Common.{◌-◌, length}
use Rattle.sat_trail.specs.Settled.{IsSettled}
use Rattle.sat_trail.proofs.settled.settle.Given as goal

abbrev pub invariant-more : goal.invariant-more
invariant-more l = IsSettled l.trail l.ids l.count l.top

abbrev pub decreases-more : goal.decreases-more
decreases-more l = length l.ids - l.count
