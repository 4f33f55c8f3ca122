use Rattle.std.proofs.Common.{◌≡◌, ◌++◌, ◌+◌, ◌-◌, flat_map}
use Rattle.rail_base.specs.Numbering.{count_from}
use Rattle.workload.specs.Track.{signals_of, signals}
use Rattle.workload.proofs.nodes.signals.Given as goal

-- what is added and what is left to add make all of it
abbrev pub invariant-loop-track : goal.invariant-loop-track
invariant-loop-track l = l.signals.items ++ flat_map signals_of (count_from l.track (l.size + 1 - l.track)) ≡ signals l.size
