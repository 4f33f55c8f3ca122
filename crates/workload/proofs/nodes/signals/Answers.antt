use Rattle.std.proofs.Common.{◌<◌, ◌+◌, [], ◌∷◌, ◌++◌, codes, ◌∙◌, arith}
use Rattle.rail_base.specs.declared.station.Side.TheVariants.{A, B}
use Rattle.workload.specs.Track.{numbered_name, signals_of}
use Rattle.workload.proofs.Counting.{part_next, push_two}
use Rattle.workload.proofs.nodes.signals.Goals as goal
use Rattle.rail_base.proofs.Lists.{count_next}

pub loop-track-preserved : goal.loop-track-preserved
loop-track-preserved c =
    let old = c.loop-track.signals.items in
    let i = c.loop-track.track in
    let within : c.loop-track.track < c.args.size + 1 = (let l = c.loop-track-test.true in omega arith) in
    part_next old c.push_signal-in-loop-track.new.signals.items _ _ _ i (count_next i (c.args.size + 1) within) signals_of
    (push_two old _ _ _ _ c.in_ok-push_signal.ensures c.in_ok-push_signal-2.ensures ∙ (λ k. old ++ record { name = numbered_name (codes "re") i; node = record { 0 = c.right.ensures k }; toward = B } ∷ record { name = numbered_name (codes "lw") i; node = record { 0 = c.left_node.ensures k }; toward = A } ∷ [])) c.loop-track.invariant
