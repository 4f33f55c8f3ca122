use Rattle.std.proofs.Common.{◌-◌}
use Rattle.plan_ways.proofs.Enumerating.{AreFound}
use Rattle.plan_ways.proofs.ways.plan_ways.Given as goal

abbrev pub invariant-longer : goal.invariant-longer
invariant-longer l =
    let i = l.interlocking in
    AreFound i.design.station i.routes l.train l.live.items l.count l.paths.items l.ways.items l.left

abbrev pub decreases-longer : goal.decreases-longer
decreases-longer l = 256 - l.count
