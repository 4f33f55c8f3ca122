use Rattle.std.proofs.Common.{◌≡◌, ◌<◌, ◌+◌, ◌*◌, ◌-◌, [], ◌∷◌, ◌++◌, ap, ◌∙◌, arith}
use Rattle.workload.specs.Track.{edge, track}
use Rattle.workload.specs.Draws.{below, drawn, track_length}
use Rattle.workload.proofs.Counting.{push_next}
use Rattle.workload.proofs.Drawing.{track_drawn, next_track}
use Rattle.workload.proofs.edges.push_tracks.Goals as goal
use Rattle.rail_base.proofs.Lists.{count_next}

pub loop-track-preserved : goal.loop-track-preserved
loop-track-preserved c =
    let seed = c.args.draws.now.state in
    let i = c.loop-track.track in
    let within : c.loop-track.track < c.args.size + 1 = (let l = c.loop-track-test.true in omega arith) in
    let state : c.below-length_mm.new.self.state ≡ drawn seed i = track_drawn seed i c.loop-track.draws.state c.below-length_mm.new.self.state c.loop-track.invariant.0 c.loop-track.invariant.1 c.below-length_mm.ensures.state in
    let length : c.below-length_mm.result ≡ below 100000 (drawn seed i) = c.below-length_mm.ensures.value ∙ ap (below 100000) state in (
      omega arith,
      next_track seed i c.below-length_mm.new.self.state state,
      push_next c.loop-track.edges.items c.push_edge.new.edges.items _ _ _ i (count_next i (c.args.size + 1) within) (track c.args.size (track_length seed))
          (c.in_ok-push_edge.ensures ∙ (λ k. c.loop-track.edges.items ++ edge (2 * c.args.size + i - 1) (c.left_node.ensures k) (c.right.ensures k) (150000 + length k) (i + 1) ∷ [])) c.loop-track.invariant.2,
    )
