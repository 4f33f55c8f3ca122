use Rattle.std.proofs.Common.{◌≡◌, ◌++◌, ◌+◌, ◌-◌, ◌≤◌, map}
use Rattle.rail_base.specs.Numbering.{count_from, one_to}
use Rattle.workload.specs.Draws.{drawn, track_length}
use Rattle.workload.specs.Track.{track}
use Rattle.workload.proofs.edges.push_tracks.Given as goal

-- what is added and what is left to add make all of it
abbrev pub invariant-loop-track : goal.invariant-loop-track
invariant-loop-track l = (1 ≤ l.track) × (l.draws.state ≡ drawn l.fn.draws.state (l.track - 1))
    × (l.edges.items ++ map (track l.size (track_length l.fn.draws.state)) (count_from l.track (l.size + 1 - l.track)) ≡ l.fn.edges.items ++ map (track l.size (track_length l.fn.draws.state)) (one_to l.size))
