use Rattle.std.proofs.Common.{◌≡◌, ◌++◌, ◌-◌, ◌+◌, flat_map, length}
use Rattle.rail_base.specs.Numbering.{count_from}
use Rattle.rail_spec.specs.Track.{starts, starts_at}
use Rattle.rail_routes.proofs.starts.starts.Given as goal

abbrev pub invariant-loop-index : goal.invariant-loop-index
invariant-loop-index l = l.all.items ++ flat_map (λ n. starts_at l.track.design.now.station (record { 0 = n })) (count_from (l.index + 1) (length l.track.design.now.station.nodes - l.index)) ≡ starts l.track.design.now.station
