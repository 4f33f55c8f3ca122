use Rattle.std.proofs.Common.{◌≡◌, ◌≤◌, drop, length, map}
use Rattle.rail_base.specs.Routes.{route_at}
use Rattle.plan_ways.specs.Visits.{made_along}
use Rattle.plan_ways.proofs.ways.made_along.Given as goal

abbrev pub invariant-loop-route : goal.invariant-loop-route
invariant-loop-route l = record {
  is : made_along l.visits (map (route_at l.interlocking.routes) (drop l.route-index l.path)) l.made
      ≡ made_along l.visits (map (route_at l.interlocking.routes) l.path) 1;
  within : l.made ≤ length l.visits;
}
