use Rattle.std.proofs.Common.{◌<◌, arith}
use Rattle.workload.specs.Track.{east_legs}
use Rattle.workload.proofs.Counting.{part_next}
use Rattle.workload.proofs.edges.push_east.Goals as goal
use Rattle.rail_base.proofs.Lists.{count_next}

pub loop-track-preserved : goal.loop-track-preserved
loop-track-preserved c =
    let within : c.loop-track.track < c.args.size = (let l = c.loop-track-test.true in omega arith) in
    part_next c.loop-track.edges.items c.push_east_legs.new.edges.items _ _ _ c.loop-track.track (count_next c.loop-track.track c.args.size within) (east_legs c.args.size) c.in_ok-push_east_legs.ensures c.loop-track.invariant
