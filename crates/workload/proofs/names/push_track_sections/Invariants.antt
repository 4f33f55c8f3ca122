use Rattle.std.proofs.Common.{◌≡◌, ◌++◌, ◌+◌, ◌-◌, map}
use Rattle.rail_base.specs.Numbering.{count_from, one_to}
use Rattle.std.proofs.Common.{codes}
use Rattle.workload.specs.Track.{numbered_name}
use Rattle.workload.proofs.names.push_track_sections.Given as goal

-- what is added and what is left to add make all of it
abbrev pub invariant-loop-track : goal.invariant-loop-track
invariant-loop-track l = l.names.items ++ map (numbered_name (codes "T")) (count_from l.track (l.size + 1 - l.track)) ≡ l.fn.names.items ++ map (numbered_name (codes "T")) (one_to l.size)
