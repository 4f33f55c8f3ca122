use Rattle.std.proofs.Common.{◌≡◌, drop, map}
use Rattle.std.specs.List.{list_any}
use Rattle.rail_base.specs.Routes.{route_at}
use Rattle.rail_base.specs.declared.route.Route.{Route}
use Rattle.rail_spec.specs.Plans.{is_start}
use Rattle.cone_form.proofs.walk.starts_again.Given as goal

-- none so far does
abbrev pub invariant-loop-other : goal.invariant-loop-other
invariant-loop-other l = list_any (λ (q : Route). is_start l.route.start q.start) (map (route_at l.routes) (drop l.other-index l.path)) ≡ list_any (λ (q : Route). is_start l.route.start q.start) (map (route_at l.routes) l.path)
