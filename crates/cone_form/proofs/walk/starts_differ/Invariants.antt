use Rattle.std.proofs.Common.{◌≡◌, true, take, map, not}
use Rattle.rail_base.specs.Members.{all_pairs}
use Rattle.rail_base.specs.Routes.{route_at}
use Rattle.rail_base.specs.declared.route.Route.{Route}
use Rattle.rail_spec.specs.Plans.{is_start}
use Rattle.cone_form.proofs.walk.starts_differ.Given as goal

-- the routes so far start apart
abbrev pub invariant-loop-index : goal.invariant-loop-index
invariant-loop-index l = all_pairs (λ (r q : Route). not (is_start r.start q.start)) (map (route_at l.routes) (take l.index l.path)) ≡ true
