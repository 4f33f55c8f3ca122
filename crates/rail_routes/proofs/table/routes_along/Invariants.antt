use Rattle.std.proofs.Common.{◌≡◌, ◌≤◌, ◌-◌, ◌++◌, flat_map, drop, length}
use Rattle.rail_spec.specs.Track.{walks_from, route_from, routes_of, all_walks}
use Rattle.rail_routes.specs.Refusals.{fault_of}
use Rattle.rail_routes.proofs.table.routes_along.Given as goal

abbrev pub invariant-loop-start : goal.invariant-loop-start
invariant-loop-start l = record {
  few : length l.table.items ≤ 2000;
  fault : fault_of (2000 - length l.table.items) (flat_map (walks_from l.track.design.now.station) (drop l.start-index l.start-items)) ≡ fault_of 2000 (all_walks l.track.design.now.station);
  same : l.table.items ++ flat_map (λ s. flat_map (route_from l.track.design.now.station s) (walks_from l.track.design.now.station s)) (drop l.start-index l.start-items) ≡ routes_of l.track.design.now.station;
}
