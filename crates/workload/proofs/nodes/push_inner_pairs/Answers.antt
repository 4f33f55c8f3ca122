use Rattle.std.proofs.Common.{◌<◌, ◌+◌, [], ◌∷◌, arith}
use Rattle.workload.specs.Track.{inner}
use Rattle.workload.proofs.Counting.{part_next, push_two}
use Rattle.workload.proofs.nodes.push_inner_pairs.Goals as goal
use Rattle.rail_base.proofs.Lists.{count_next}

pub loop-track-preserved : goal.loop-track-preserved
loop-track-preserved c =
    let within : c.loop-track.track < c.args.tracks + 1 = (let l = c.loop-track-test.true in omega arith) in
    part_next c.loop-track.nodes.items c.push_inner-in-loop-track.new.nodes.items _ _ _ c.loop-track.track (count_next c.loop-track.track (c.args.tracks + 1) within) (λ i. inner c.args.first.now i ∷ inner c.args.second.now i ∷ []) (push_two c.loop-track.nodes.items _ _ _ _ c.in_ok-push_inner.ensures c.in_ok-push_inner-2.ensures) c.loop-track.invariant
