use Rattle.std.proofs.Common.{◌≡◌, ◌-◌, drop, map}
use Rattle.rail_base.specs.Members.{all_neighbors}
use Rattle.rail_base.specs.Routes.{route_at}
use Rattle.rail_base.specs.declared.route.Route.{Route}
use Rattle.rail_spec.specs.Plans.{goes_on}
use Rattle.cone_form.proofs.walk.is_connected.Given as goal

-- those so far are connected
abbrev pub invariant-loop-index : goal.invariant-loop-index
invariant-loop-index l = all_neighbors (λ (r q : Route). goes_on r.finish q.start) (map (route_at l.routes) (drop (l.index - 1) l.path)) ≡ all_neighbors (λ (r q : Route). goes_on r.finish q.start) (map (route_at l.routes) l.path)
