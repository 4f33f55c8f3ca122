use Rattle.std.proofs.Common.{◌≡◌, ◌≤◌, ◌-◌, ◌++◌, flat_map, length}
use Rattle.rail_spec.specs.Track.{walks_from, route_from}
use Rattle.rail_routes.specs.Pending.{station_of, to_come}
use Rattle.rail_routes.specs.Refusals.{fault_of}
use Rattle.rail_routes.proofs.table.add_routes.Given as goal

abbrev pub invariant-loop-search : goal.invariant-loop-search
invariant-loop-search l = record {
  track : station_of l.search ≡ l.track.design.now.station;
  few : length l.table.items ≤ 2000;
  fault : fault_of (2000 - length l.table.items) (to_come l.search) ≡ fault_of (2000 - length l.fn.table.items) (walks_from l.track.design.now.station l.start);
  same : l.table.items ++ flat_map (route_from l.track.design.now.station l.start) (to_come l.search) ≡ l.fn.table.items ++ flat_map (route_from l.track.design.now.station l.start) (walks_from l.track.design.now.station l.start);
}

abbrev pub decreases-loop-search : goal.decreases-loop-search
decreases-loop-search l = length (to_come l.search)
