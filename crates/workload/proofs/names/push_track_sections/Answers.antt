use Rattle.std.proofs.Common.{ℕ, ◌<◌, ◌+◌, List, [], ◌∷◌, ◌++◌, codes, ◌∙◌, arith}
use Rattle.workload.specs.Track.{numbered_name}
use Rattle.workload.proofs.Counting.{push_next}
use Rattle.workload.proofs.names.push_track_sections.Goals as goal
use Rattle.rail_base.proofs.Lists.{count_next}

pub loop-track-preserved : goal.loop-track-preserved
loop-track-preserved c =
    let old = c.loop-track.names.items in
    let i = c.loop-track.track in
    let within : c.loop-track.track < c.args.size + 1 = (let l = c.loop-track-test.true in omega arith) in
    push_next old c.push.new.self.items _ _ _ i (count_next i (c.args.size + 1) within) (numbered_name (codes "T")) (◌∙◌ {A = List (List ℕ)} c.in_ok-push.ensures.items (λ k. old ++ c.in_ok-numbered_name.ensures k ∷ [])) c.loop-track.invariant
