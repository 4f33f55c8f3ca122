use Rattle.std.proofs.Common.{◌≡◌, ◌++◌, ◌-◌, ◌+◌, map, length}
use Rattle.rail_base.specs.Numbering.{count_from}
use Rattle.rail_routes.specs.Ends.{edges_at_end, at_side}
use Rattle.rail_routes.proofs.track.at_side.Given as goal

abbrev pub invariant-loop-index : goal.invariant-loop-index
invariant-loop-index l = l.all ++ map (λ n. edges_at_end l.design.station (record { node = record { 0 = n }; side = l.side })) (count_from (l.index + 1) (length l.design.station.nodes - l.index)) ≡ at_side l.design.station l.side
