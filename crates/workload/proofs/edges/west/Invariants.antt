use Rattle.std.proofs.Common.{◌≡◌, ◌++◌, ◌-◌, flat_map}
use Rattle.rail_base.specs.Numbering.{count_from}
use Rattle.workload.specs.Track.{west_legs, west}
use Rattle.workload.proofs.edges.west.Given as goal

-- what is added and what is left to add make all of it
abbrev pub invariant-loop-track : goal.invariant-loop-track
invariant-loop-track l = l.edges.items ++ flat_map (west_legs l.size) (count_from l.track (l.size - l.track)) ≡ west l.size
