use Rattle.std.proofs.Common.{◌≡◌, ◌++◌, ◌-◌, flat_map}
use Rattle.rail_base.specs.Numbering.{count_from}
use Rattle.workload.specs.Track.{east_legs, east}
use Rattle.workload.proofs.edges.push_east.Given as goal

-- what is added and what is left to add make all of it
abbrev pub invariant-loop-track : goal.invariant-loop-track
invariant-loop-track l = l.edges.items ++ flat_map (east_legs l.size) (count_from l.track (l.size - l.track)) ≡ l.fn.edges.items ++ east l.size
