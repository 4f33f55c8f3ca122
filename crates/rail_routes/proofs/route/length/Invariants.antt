use Rattle.std.proofs.Common.{◌≡◌, ◌≤◌, ◌*◌, ◌+◌, drop, sum_by}
use Rattle.rail_base.specs.Stations.{length_of}
use Rattle.rail_routes.proofs.route.length.Given as goal

abbrev pub invariant-loop-edge : goal.invariant-loop-edge
invariant-loop-edge l = record {
  sum : l.length + sum_by (length_of l.design.station) (drop l.edge-index l.path) ≡ sum_by (length_of l.design.station) l.path;
  bound : l.length ≤ 10000000 * l.edge-index;
}
